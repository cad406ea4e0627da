-- The scan over two types at once: where all nodes of two types say yes, the cast makes sense. Assumes nothing.
use mathlib.Core.Path.{◌≡◌, refl, sym, subst, ◌∙◌}
use mathlib.Core.Bool.{Bool, true, false, not, cond, ◌&&◌, ◌||◌, and-false, or-false}
use mathlib.Core.List.{List, [], ◌∷◌, ◌++◌, append_assoc}
use Rattle.std.specs.Prelude.{Some}
use Prim.Native.Nat.{ℕ, ◌+◌, ◌≤◌, ◌<◌}
use native.Mathlib.Omega.{arith}
use lib.Dec.{eqb}
use native.Mathlib.Numerals.{add-one}
use lib.ListN.{length, get_or, drop, drop_of_length-le}
use lib.Seq.{drop-cons}
use borrow.Author.Tests.{eq-eqb, ne_eqb, eqb-true, not-true, not-false}
use Rattle.flat.specs.Kind
use Rattle.flat.specs.Tree.{DataType, leaf, list, array, struct, Fields, empty, field, count, head_kind, size}
use Rattle.flat.specs.Tree.{kinds_of, kinds_ofs, args_of, args_ofs}
use Rattle.flat.specs.Walk.{Valid, type_at}
use Rattle.flat.proofs.ReadBack.{Good, Goods, Sound, sound}
use Rattle.flat.proofs.Truths.{impossible, both_true}
use Rattle.dtype.specs.Predicate.{is_primitive_numeric}
use Rattle.dtype.specs.Equality.{equal}
use Rattle.dtype_cast.specs.Cast.{before_nested, can_cast_to}
use Rattle.dtype.proofs.Pairs.{nodes_same}
use Rattle.dtype.proofs.Runs.{says, of_run}
use Rattle.dtype_cast.specs.Scan.{node_yes, all_yes}
use Rattle.dtype_cast.specs.Laws.{AllCast, no_fields, one_more}
use Rattle.dtype_cast.proofs.Arms.{cast_equal, no_test, lists_arm, arrays_arm}
use Rattle.dtype_cast.proofs.Structs.{cast_laws}

-- ---- the scan by its nodes
pub other_length : (ks xs ls ys : List ℕ) → (length ks ≡ length ls → ⊥) → false ≡ all_yes ks xs ls ys
unfolding all_yes
other_length [] xs [] ys h = absurd (h refl)
other_length [] xs (l ∷ ls) ys h = refl
other_length (k ∷ ks) xs [] ys h = refl
other_length (k ∷ ks) [] (l ∷ ls) ys h = refl
other_length (k ∷ ks) (a ∷ xs) (l ∷ ls) [] h = refl
other_length (k ∷ ks) (a ∷ xs) (l ∷ ls) (b ∷ ys) h = rw (← other_length ks xs ls ys (λ e. h (omega arith)), and-false)

-- Before node i of two types: the first i nodes on either side say yes, so those that are left decide.
pub record YesSoFar (ks xs ls ys : List ℕ) (i : ℕ) : Type 0 where
  pub even : length ks ≡ length xs
  pub even_right : length ls ≡ length ys
  pub as_many : length ks ≡ length ls
  pub within : i ≤ length ks
  pub rest : all_yes ks xs ls ys ≡ all_yes (drop i ks) (drop i xs) (drop i ls) (drop i ys)

module _ {ks xs ls ys : List ℕ} {i : ℕ} (s : YesSoFar ks xs ls ys i) where
  module _ (h : i < length ks)
      {r : Bool} (e : r ≡ node_yes (get_or ks i 0) (get_or xs i 0) (get_or ls i 0) (get_or ys i 0)) where
    next_two : all_yes ks xs ls ys ≡ (r && all_yes (drop (i + 1) ks) (drop (i + 1) xs) (drop (i + 1) ls) (drop (i + 1) ys))
    unfolding all_yes
    next_two =
        s.rest ∙ rw (
          e,
          add-one,
          drop-cons ks i 0,
          drop-cons xs i 0 (omega (arith, s.even)),
          drop-cons ls i 0 (omega (arith, s.as_many)),
          drop-cons ys i 0 (omega (arith, s.as_many, s.even_right)),
        )

    pub scan_on : not r ≡ false → YesSoFar ks xs ls ys (i + 1)
    scan_on f = record {
      even = s.even;
      even_right = s.even_right;
      as_many = s.as_many;
      within = omega arith;
      rest = next_two ∙ rw (not-false r f);
    }

    pub scan_stop : not r ≡ true → false ≡ all_yes ks xs ls ys
    scan_stop f = sym (next_two ∙ rw (not-true r f))

  pub scan_end : length ks ≤ i → true ≡ all_yes ks xs ls ys
  unfolding all_yes
  scan_end h =
      let g : length ls ≤ i = omega (arith, s.as_many) in
      sym (s.rest ∙ rw (drop_of_length-le ks h, drop_of_length-le ls g))

-- ---- two nodes that say yes
-- what two nodes are that say yes, but for two fields
data Told (k a l b : ℕ) : Type 0 where
  same : k ≡ l → a ≡ b → Told k a l b
  numeric : (is_primitive_numeric k && is_primitive_numeric l) ≡ true → Told k a l b

told : (k a l b : ℕ) → k ≤ Kind.Struct → node_yes k a l b ≡ true → Told k a l b
unfolding node_yes
told k a l b h e = go (eqb k l) refl e
  where
    go : (c : Bool) → eqb k l ≡ c
        → cond c (eqb a b || eqb k Kind.Field) (is_primitive_numeric k && is_primitive_numeric l) ≡ true
        → Told k a l b
    go true p e = same (eqb-true k l p) (eqb-true a b (rw (ne_eqb k Kind.Field (omega arith), or-false) at e))
    go false p e = numeric e

-- Of two leaves that say yes the cast makes sense.
pub leaves_yes : (k a l b : ℕ) → k < Kind.List → node_yes k a l b ≡ true → can_cast_to (leaf k a) (leaf l b) ≡ Some true
unfolding can_cast_to before_nested head_kind equal
leaves_yes k a l b h e = go (told k a l b (omega arith) e)
  where
    go : Told k a l b → can_cast_to (leaf k a) (leaf l b) ≡ Some true
    go (same p q) = cast_equal (leaf k a) (leaf l b) (nodes_same k a l b p q)
    go (numeric n) = rw n (no_test (equal (leaf k a) (leaf l b)) (Some true) (λ f. refl))

-- The node of a nested type says yes to an equal one only.
not_numeric : (k : ℕ) → (Kind.List ≤ k) × (k ≤ Kind.Struct) → is_primitive_numeric k ≡ false
not_numeric k h = sym (of_run is_primitive_numeric false 28 3 (unfold says in tt) k (omega arith))

module _ {k a l b : ℕ} (e : node_yes k a l b ≡ true) where
  same_node : k ≤ Kind.Struct → (is_primitive_numeric k && is_primitive_numeric l) ≡ false → (k ≡ l) × (a ≡ b)
  same_node h n = go (told k a l b h e)
    where
      go : Told k a l b → (k ≡ l) × (a ≡ b)
      go (same p q) = (p, q)
      go (numeric y) = impossible cc

  from_nested : (Kind.List ≤ k) × (k ≤ Kind.Struct) → (k ≡ l) × (a ≡ b)
  from_nested h = same_node h.1 (rw (not_numeric k h))

  to_nested : k ≤ Kind.Struct → (Kind.List ≤ l) × (l ≤ Kind.Struct) → (k ≡ l) × (a ≡ b)
  to_nested h g = same_node h (rw (not_numeric l g) (and-false (is_primitive_numeric k)))

-- ---- two types whose nodes all say yes
-- the first two nodes, and those after them
record First (k a l b : ℕ) (ks xs ls ys : List ℕ) : Type 0 where
  node : node_yes k a l b ≡ true
  next : all_yes ks xs ls ys ≡ true

first : {k a l b : ℕ} {ks xs ls ys : List ℕ}
    → all_yes (k ∷ ks) (a ∷ xs) (l ∷ ls) (b ∷ ys) ≡ true
    → First k a l b ks xs ls ys
unfolding all_yes
first {k} {a} {l} {b} {ks} {xs} {ls} {ys} e =
    let p = both_true (node_yes k a l b) (all_yes ks xs ls ys) e in
    record { node = p.0; next = p.1 }

-- A type's nodes say where it ends: whatever stands after two types, they are looked at first.
mutual
  unfolding Good kinds_of args_of count

  types_yes : (t u : DataType) → Good t → Good u → (ks xs ls ys : List ℕ)
      → all_yes (kinds_of t ++ ks) (args_of t ++ xs) (kinds_of u ++ ls) (args_of u ++ ys) ≡ true
      → (can_cast_to t u ≡ Some true) × (all_yes ks xs ls ys ≡ true)
  types_yes (leaf k a) (leaf l b) r s ks xs ls ys e = (leaves_yes k a l b (omega arith) (first e).node, (first e).next)
  types_yes (leaf k a) (list u) r s ks xs ls ys e = absurd (omega (arith, to_nested (first e).node (omega arith) (omega arith)))
  types_yes (leaf k a) (array v u) r s ks xs ls ys e = absurd (omega (arith, to_nested (first e).node (omega arith) (omega arith)))
  types_yes (leaf k a) (struct gs) r s ks xs ls ys e = absurd (omega (arith, to_nested (first e).node (omega arith) (omega arith)))
  types_yes (list t) (leaf l b) r s ks xs ls ys e = absurd (omega (arith, from_nested (first e).node (omega arith)))
  types_yes (list t) (list u) r s ks xs ls ys e =
      let q = types_yes t u r s ks xs ls ys (first e).next in
      (lists_arm t u ∙ q.0, q.1)
  types_yes (list t) (array v u) r s ks xs ls ys e = absurd (omega (arith, from_nested (first e).node (omega arith)))
  types_yes (list t) (struct gs) r s ks xs ls ys e = absurd (omega (arith, from_nested (first e).node (omega arith)))
  types_yes (array w t) (leaf l b) r s ks xs ls ys e = absurd (omega (arith, from_nested (first e).node (omega arith)))
  types_yes (array w t) (list u) r s ks xs ls ys e = absurd (omega (arith, from_nested (first e).node (omega arith)))
  types_yes (array w t) (array v u) r s ks xs ls ys e =
      let q = types_yes t u r s ks xs ls ys (first e).next in
      (arrays_arm t u w v ∙ rw (eq-eqb w v (from_nested (first e).node (omega arith)).1) q.0, q.1)
  types_yes (array w t) (struct gs) r s ks xs ls ys e = absurd (omega (arith, from_nested (first e).node (omega arith)))
  types_yes (struct fs) (leaf l b) r s ks xs ls ys e = absurd (omega (arith, from_nested (first e).node (omega arith)))
  types_yes (struct fs) (list u) r s ks xs ls ys e = absurd (omega (arith, from_nested (first e).node (omega arith)))
  types_yes (struct fs) (array v u) r s ks xs ls ys e = absurd (omega (arith, from_nested (first e).node (omega arith)))
  types_yes (struct fs) (struct gs) r s ks xs ls ys e =
      let q = fields_yes fs gs r s (from_nested (first e).node (omega arith)).1 ks xs ls ys (first e).next in
      (cast_laws.all_cast q.0, q.1)

  fields_yes : (fs gs : Fields) → Goods fs → Goods gs → count fs ≡ count gs → (ks xs ls ys : List ℕ)
      → all_yes (kinds_ofs fs ++ ks) (args_ofs fs ++ xs) (kinds_ofs gs ++ ls) (args_ofs gs ++ ys) ≡ true
      → AllCast fs gs × (all_yes ks xs ls ys ≡ true)
  fields_yes empty empty r s n ks xs ls ys e = (no_fields, e)
  fields_yes empty (field other u gs) r s n ks xs ls ys e = absurd (omega arith)
  fields_yes (field name t fs) empty r s n ks xs ls ys e = absurd (omega arith)
  fields_yes (field name t fs) (field other u gs) r s n ks xs ls ys e =
      let f = simp append_assoc at (first e).next in
      let p = types_yes t u r.0 s.0 (kinds_ofs fs ++ ks) _ (kinds_ofs gs ++ ls) _ f in
      let q = fields_yes fs gs r.1 s.1 (omega arith) ks xs ls ys p.1 in
      (one_more name other p.0 q.0, q.1)

-- Where a type stands at the front of either two lists and the scan says yes, the cast makes sense.
pub all_yes_lem : {ks xs ls ys : List ℕ} → Valid ks xs → Valid ls ys → all_yes ks xs ls ys ≡ true
    → can_cast_to (type_at ks xs) (type_at ls ys) ≡ Some true
all_yes_lem {ks} {xs} {ls} {ys} v w e =
    let t : DataType = type_at ks xs in
    let u : DataType = type_at ls ys in
    let l : Sound ks xs (Some t) = subst (Sound ks xs) v.read (sound ks xs) in
    let r : Sound ls ys (Some u) = subst (Sound ls ys) w.read (sound ls ys) in
    (types_yes t u l.2 r.2 (drop (size t) ks) (drop (size t) xs) (drop (size u) ls) (drop (size u) ys)
    (rw (← l.0, ← l.1, ← r.0, ← r.1) e)).0
