-- A predicate that looks into a type node by node says of it what a scan says of its kinds. Assumes nothing.
use mathlib.Core.Path.{◌≡◌, refl, sym, ap, ◌∙◌}
use mathlib.Core.Bool.{Bool, true, false, not, cond, ◌&&◌, ◌||◌, or_assoc, or-false, not-not, true≢false}
use mathlib.Core.List.{List, [], ◌∷◌, ◌++◌, append_assoc, append-nil}
use Prim.Native.Nat.{ℕ, ◌≤◌, ◌<◌}
use native.Mathlib.Omega.{arith}
use borrow.Author.Tests.{eq-eqb, ne_eqb}
use lib.Dec.{eqb}
use Rattle.std.specs.List.{list_any}
use Rattle.flat.specs.Kind
use Rattle.flat.specs.Tree.{DataType, leaf, list, array, struct, Fields, empty, field, kinds_of, kinds_ofs}
use Rattle.flat.specs.Reading.{type, reading, Ruled, RuledFields}
use Rattle.flat.proofs.Meaning.{holds}
use Rattle.dtype.specs.Match.{among, if_leaf}
use Rattle.dtype.specs.Predicate.{is_temporal, is_unknown_int, is_unknown}
use Rattle.dtype.specs.Equality.{equal_node, equal, equal_fields}
use Rattle.dtype.specs.Physical.{physical_leaf, to_physical, physical_fields}
use Rattle.dtype.specs.Recursive.{is_known, all_known, is_logical, contains_list_recursive, any_contains_list}
use Rattle.dtype.specs.Recursive.{contains_unknown, any_contains_unknown}
use Rattle.dtype.specs.Scan.{is_list_kind, is_logical_kind}
use Rattle.dtype.proofs.Pairs.{nodes_same, right_known}

-- f of a type and g of fields: p holds of some node
pub record Nodewise (p : ℕ → Bool) (f : DataType → Bool) (g : Fields → Bool) : Type 0 where
  pub on_leaf : (k a : ℕ) → k ≤ Kind.UnknownIntNeg → f (leaf k a) ≡ p k
  pub on_list : (t : DataType) → f (list t) ≡ (p Kind.List || f t)
  pub on_array : (w : ℕ) (t : DataType) → f (array w t) ≡ (p Kind.Array || f t)
  pub on_struct : (fs : Fields) → f (struct fs) ≡ (p Kind.Struct || g fs)
  pub on_empty : g empty ≡ false
  pub on_field : (name : ℕ) (t : DataType) (fs : Fields) → g (field name t fs) ≡ (p Kind.Field || (f t || g fs))

module _ {p : ℕ → Bool} {f : DataType → Bool} {g : Fields → Bool} (n : Nodewise p f g) where
  mutual
    unfolding kinds_of Ruled

    any_type : (t : DataType) → Ruled t → (ks : List ℕ) → list_any p (kinds_of t ++ ks) ≡ (f t || list_any p ks)
    any_type (leaf k a) r ks = rw (n.on_leaf k a r.0)
    any_type (list t) r ks = rw (n.on_list t, any_type t r ks) (sym (or_assoc (p Kind.List) (f t) (list_any p ks)))
    any_type (array w t) r ks = rw (n.on_array w t, any_type t r ks) (sym (or_assoc (p Kind.Array) (f t) (list_any p ks)))
    any_type (struct fs) r ks = rw (n.on_struct fs, any_fields fs r.1 ks) (sym (or_assoc (p Kind.Struct) (g fs) (list_any p ks)))

    any_fields : (fs : Fields) → RuledFields fs → (ks : List ℕ) → list_any p (kinds_ofs fs ++ ks) ≡ (g fs || list_any p ks)
    any_fields empty r ks = rw n.on_empty
    any_fields (field name t fs) r ks =
        rw (n.on_field name t fs, append_assoc (kinds_of t) (kinds_ofs fs) ks, any_type t r.1 (kinds_ofs fs ++ ks), any_fields fs r.2 ks)
        (ap (λ (b : Bool). p Kind.Field || b) (sym (or_assoc (f t) (g fs) (list_any p ks))) ∙ sym (or_assoc (p Kind.Field) (f t || g fs) (list_any p ks)))

  -- a scan of a valid type's kinds says what f says of the type
  pub scanned : (nodes deep : ℕ) (ks xs : List ℕ) (t : DataType) → reading nodes deep ks xs ≡ type t → list_any p ks ≡ f t
  scanned nodes deep ks xs t e =
      let h = holds nodes deep ks xs t e in
      ap (list_any p) (h.kinds ∙ sym (append-nil (kinds_of t))) ∙ any_type t h.is_type.ruled [] ∙ or-false (f t)

not_and : (a b : Bool) → not (a && b) ≡ (not a || not b)
not_and true b = refl
not_and false b = refl

pub contains_unknown_lem : Nodewise is_unknown contains_unknown any_contains_unknown
unfolding contains_unknown is_unknown is_unknown_int among
contains_unknown_lem = record { on_leaf = λ k a h. refl; on_list = λ t. refl; on_array = λ w t. refl; on_struct = λ fs. refl; on_empty = refl; on_field = λ name t fs. refl }

pub not_known : Nodewise is_unknown (λ t. not (is_known t)) (λ fs. not (all_known fs))
unfolding is_known is_unknown is_unknown_int among
not_known = record { on_leaf = λ k a h. not-not (is_unknown k); on_list = λ t. refl; on_array = λ w t. refl; on_struct = λ fs. refl; on_empty = refl; on_field = λ name t fs. not_and (is_known t) (all_known fs) }

pub contains_list : Nodewise is_list_kind contains_list_recursive any_contains_list
unfolding contains_list_recursive is_list_kind among
contains_list = record { on_leaf = λ k a h. rw (ne_eqb k Kind.List (omega arith)); on_list = λ t. refl; on_array = λ w t. refl; on_struct = λ fs. refl; on_empty = refl; on_field = λ name t fs. refl }

-- ---- a type differs from its physical form where some leaf does

-- from a leaf whose kind a test tells apart, and which is no unknown integer
other_leaf : (p : ℕ → Bool) (k a j : ℕ) → p k ≡ true → p j ≡ false → j < Kind.UnknownIntPos → equal_node k a j 0 ≡ false
other_leaf p k a j y n h = right_known k a j 0 (λ e. true≢false (sym y ∙ ap p e ∙ n)) (omega arith) (omega arith)

logical_leaf : (k a : ℕ) → is_logical (leaf k a) ≡ is_logical_kind k
unfolding is_logical equal to_physical physical_leaf is_logical_kind is_temporal is_unknown_int among
logical_leaf k a = go (eqb k Kind.Date) (among (Kind.Datetime ∷ Kind.Duration ∷ Kind.Time ∷ []) k) (eqb k Kind.Decimal) refl refl refl
  where
    go : (b c d : Bool) → eqb k Kind.Date ≡ b → among (Kind.Datetime ∷ Kind.Duration ∷ Kind.Time ∷ []) k ≡ c
        → eqb k Kind.Decimal ≡ d
        → not (if_leaf false (equal_node k a) (cond b (leaf Kind.Int32 0) (cond c (leaf Kind.Int64 0) (cond d (leaf Kind.Int128 0) (leaf k a))))) ≡ ((b || c) || (d || false))
    go true c d e f h = rw (other_leaf (λ i. eqb i Kind.Date) k a Kind.Int32 e refl (omega arith))
    go false true d e f h = rw (other_leaf (among (Kind.Datetime ∷ Kind.Duration ∷ Kind.Time ∷ [])) k a Kind.Int64 f refl (omega arith))
    go false false true e f h = rw (other_leaf (λ i. eqb i Kind.Decimal) k a Kind.Int128 h refl (omega arith))
    go false false false e f h = rw (nodes_same k a k a refl refl)

pub is_logical_lem : Nodewise is_logical_kind is_logical (λ fs. not (equal_fields fs (physical_fields fs)))
unfolding is_logical equal to_physical is_logical_kind is_temporal among
is_logical_lem = record {
  on_leaf = λ k a h. logical_leaf k a;
  on_list = λ t. refl;
  on_array = λ w t. rw (eq-eqb w w refl);
  on_struct = λ fs. refl;
  on_empty = refl;
  on_field = λ name t fs. rw (eq-eqb name name refl) (not_and (equal t (to_physical t)) (equal_fields fs (physical_fields fs)));
}
