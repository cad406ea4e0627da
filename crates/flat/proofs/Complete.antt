-- The scan accepts every type, where its bound is large enough: where it accepts none, none stands there. Assumes
-- nothing.
use mathlib.Core.Path.{◌≡◌, refl, ap₂, ◌∙◌}
use mathlib.Core.Bool.{Bool, true}
use mathlib.Core.List.{List, [], ◌∷◌, ◌++◌, append_assoc}
use Prim.Native.Nat.{ℕ, suc, ◌+◌, ◌*◌, ◌≤◌, ◌<◌}
use native.Mathlib.Omega.{arith}
use borrow.Author.Tests.{le-leb, lt-ltb, eq-eqb, ne_eqb}
use Rattle.flat.specs.Kind
use Rattle.flat.specs.Argument.{argument_fits, argument_rule}
use Rattle.flat.specs.Tree.{DataType, leaf, list, array, struct, Fields, empty, field, size, sizes, count}
use Rattle.flat.specs.Tree.{kinds_of, kinds_ofs, args_of, args_ofs}
use Rattle.flat.specs.Reader.{children}
use Rattle.flat.specs.Reading.{Ruled, RuledFields}
use Rattle.flat.specs.Refusals.{FlatForm}
use Rattle.flat.specs.Scan.{NoDeeper, start, wrapped, opened, paid, type_fits, field_fits, scan_type, scan_fields}
use Rattle.flat.specs.declared.scan.Scan.{Scan}
use Rattle.flat.proofs.Positions.{children_leaf}
use Rattle.flat.proofs.Meaning.{at_kinds, at_args}
use Rattle.flat.proofs.States.{UnderStruct, outermost, inside, opens, settles, settled_within, paid_within}
use Rattle.flat.proofs.States.{start_within}

-- The answer is that for what stands after the nodes, from a state that owes so many fields and has no more than
-- `top` levels nested.
record Onto (deep top owed : ℕ) (ks xs : List ℕ) (answer : Bool) : Type 0 where
  state : Scan
  within : NoDeeper top state
  owes : state.owed ≡ owed
  same : answer ≡ scan_fields deep state ks xs

higher : {low top : ℕ} {s : Scan} → NoDeeper low s → low ≤ top → NoDeeper top s
higher w h = record { depth = omega arith; base = omega arith }

onto :
    {deep low owed : ℕ} {ks xs : List ℕ} {answer other : Bool} (top due : ℕ) → Onto deep low owed ks xs answer
    → low ≤ top → owed ≡ due → other ≡ answer → Onto deep top due ks xs other
onto top due o h e a =
    record { state = o.state; within = higher o.within h; owes = o.owes ∙ e; same = a ∙ o.same }

-- the state under a List or an Array, and under a Struct
wrapped_higher : {top : ℕ} {s : Scan} → NoDeeper top s → NoDeeper (suc top) (wrapped s) × ((wrapped s).owed ≡ s.owed)
unfolding wrapped
wrapped_higher {s = s} w = let h = settled_within w in (record { depth = omega arith; base = omega (arith, settles s) }, (settles s).owed)

opened_higher :
    {top m : ℕ} {s r : Scan} → NoDeeper top s → UnderStruct m s r → NoDeeper (top + 2) r × (r.owed ≡ m + s.owed)
opened_higher w (outermost e) = let h = settled_within w in (record { depth = omega arith; base = omega arith }, omega arith)
opened_higher {s = s} w inside = let h = settled_within w in (record { depth = omega arith; base = omega (arith, settles s) }, omega arith)

paid_owes : (s : Scan) (n m : ℕ) → s.owed ≡ suc n + m → (paid s).owed ≡ n + m
unfolding paid
paid_owes s n m e = omega arith

-- ---- the first node
module _ (deep : ℕ) (s : Scan) (ks xs : List ℕ) where
  at_leaf :
      (k a : ℕ) → k ≤ Kind.UnknownIntNeg → argument_fits k a ≡ true
      → scan_type deep s (k ∷ ks) (a ∷ xs) ≡ scan_fields deep s ks xs
  unfolding scan_type type_fits
  at_leaf k a h f = rw (ne_eqb k Kind.Field (omega arith), f, children_leaf k a h)

  at_list : (wrapped s).depth ≤ deep → scan_type deep s (Kind.List ∷ ks) (0 ∷ xs) ≡ scan_type deep (wrapped s) ks xs
  unfolding scan_type type_fits argument_fits argument_rule children
  at_list h = rw (le-leb (wrapped s).depth deep h)

  at_array :
      (a : ℕ) → (wrapped s).depth ≤ deep → scan_type deep s (Kind.Array ∷ ks) (a ∷ xs) ≡ scan_type deep (wrapped s) ks xs
  unfolding scan_type type_fits argument_fits argument_rule children
  at_array a h = rw (le-leb (wrapped s).depth deep h)

  at_struct :
      (a : ℕ) → argument_fits Kind.Struct a ≡ true → (opened a s).depth ≤ deep
      → scan_type deep s (Kind.Struct ∷ ks) (a ∷ xs) ≡ scan_fields deep (opened a s) ks xs
  unfolding scan_type type_fits children
  at_struct a f h = rw (f, le-leb (opened a s).depth deep h)

  at_field :
      (a : ℕ) → argument_fits Kind.Field a ≡ true → 0 < s.owed
      → scan_fields deep s (Kind.Field ∷ ks) (a ∷ xs) ≡ scan_type deep (paid s) ks xs
  unfolding scan_type field_fits
  at_field a f h = rw (lt-ltb 0 s.owed h, f)

-- ---- the nodes of a type, and of fields
module _ (deep : ℕ) where
  mutual
    unfolding size count kinds_of args_of Ruled

    type_onto :
        (t : DataType) → Ruled t → (top : ℕ) {s : Scan} → NoDeeper top s → top + 2 * size t ≤ deep → (ks xs : List ℕ)
        → Onto deep (top + 2 * size t) s.owed ks xs (scan_type deep s (kinds_of t ++ ks) (args_of t ++ xs))
    type_onto (leaf k a) r top {s} w h ks xs =
        record
        { state = s; within = higher w (omega arith); owes = refl; same = at_leaf deep s ks xs k a r.0 r.1 }
    type_onto (list t) r top {s} w h ks xs =
        let v = wrapped_higher w in
        onto (top + 2 * suc (size t)) s.owed (type_onto t r (suc top) v.0 (omega arith) ks xs) (omega arith)
        v.1 (at_list deep s _ _ (omega arith))
    type_onto (array a t) r top {s} w h ks xs =
        let v = wrapped_higher w in
        onto (top + 2 * suc (size t)) s.owed (type_onto t r (suc top) v.0 (omega arith) ks xs) (omega arith)
        v.1 (at_array deep s _ _ a (omega arith))
    type_onto (struct fs) r top {s} w h ks xs =
        let v = opened_higher w (opens (count fs) s) in
        onto (top + 2 * suc (sizes fs)) s.owed
        (fields_onto fs r.1 (top + 2) s.owed v.0 v.1 (omega arith) ks xs) (omega arith) refl
        (at_struct deep s _ _ (count fs) r.0 (omega arith))

    fields_onto :
        (fs : Fields) → RuledFields fs → (top m : ℕ) {s : Scan} → NoDeeper top s → s.owed ≡ count fs + m
        → top + 2 * sizes fs ≤ deep → (ks xs : List ℕ)
        → Onto deep (top + 2 * sizes fs) m ks xs (scan_fields deep s (kinds_ofs fs ++ ks) (args_ofs fs ++ xs))
    fields_onto empty r top m {s} w e h ks xs =
        record { state = s; within = higher w (omega arith); owes = omega arith; same = refl }
    fields_onto (field name t fs) r top m {s} w e h ks xs =
        let one = type_onto t r.1 top (paid_within w) (omega arith) (kinds_ofs fs ++ ks) (args_ofs fs ++ xs) in
        let two = fields_onto fs r.2 (top + 2 * size t) m one.within (one.owes ∙ paid_owes s (count fs) m e) (omega arith) ks xs in
        onto (top + 2 * suc (size t + sizes fs)) m two (omega arith) refl
        (at_field deep s _ _ name r.0 (omega arith)
        ∙ ap₂ (scan_type deep (paid s)) (append_assoc (kinds_of t) (kinds_ofs fs) ks)
        (append_assoc (args_of t) (args_ofs fs) xs)
        ∙ one.same)

-- a bound of twice the number of nodes is large enough
pub complete :
    (nodes : ℕ) {ks xs : List ℕ} {t : DataType} → FlatForm ks xs t → size t ≤ nodes
    → scan_type (2 * nodes) start ks xs ≡ true
unfolding scan_type
complete nodes {ks} {xs} {t} f h =
    let o = type_onto (2 * nodes) t f.ruled 0 (start_within 0) (omega arith) [] [] in
    ap₂ (scan_type (2 * nodes) start) (at_kinds f) (at_args f) ∙ o.same ∙ eq-eqb o.state.owed 0 o.owes
