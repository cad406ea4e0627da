-- What the scans say of two valid types: a type's nodes stand in one piece, and no type stands at the front of another,
-- so node by node is tree by tree. Assumes nothing.
use mathlib.Core.Path.{◌≡◌, refl, sym, ap, ap₂, ◌∙◌, subst}
use mathlib.Core.Bool.{Bool, true, false, ◌&&◌, ◌||◌, and-true, and-false, and_assoc, and-eq-true_iff, or-false, or_assoc}
use mathlib.Core.List.{List, [], ◌∷◌, ◌++◌, append_assoc, append-nil}
use Rattle.std.specs.Prelude.{Option}
use Prim.Native.Nat.{ℕ, suc, ◌+◌, ◌≤◌, ◌<◌}
use native.Mathlib.Omega.{arith}
use lib.Dec.{eqb, eqb-zero-suc, eqb-suc-zero, eqb-suc-suc}
use lib.ListN.{length}
use borrow.Author.Tests.{eq-eqb}
use Rattle.flat.specs.Kind
use Rattle.flat.specs.Tree.{DataType, leaf, list, array, struct, Fields, empty, field, count, size, sizes}
use Rattle.flat.specs.Tree.{kinds_of, kinds_ofs, args_of, args_ofs}
use Rattle.flat.proofs.Truths.{never}
use Rattle.flat.proofs.Sizes.{length_kinds, length_args}
use Rattle.flat.proofs.ReadBack.{Good, Goods, Sound, sound}
use Rattle.flat.proofs.Meaning.{Holds, holds_form, form_read}
use Rattle.dtype.specs.Match.{among}
use Rattle.dtype.specs.Predicate.{is_unknown_int}
use Rattle.dtype.specs.Equality.{equal_node, equal, equal_fields}
use Rattle.dtype_eq.specs.Contains.{contains_dtype_recursive, any_contains_dtype}
use Rattle.dtype_eq.specs.Nodes.{starts_with, alike, occurs}
use Rattle.dtype.proofs.Pairs.{nodes_same, left_known, right_known}

-- a leaf's node and one that is none
leaf_other : (k a l b : ℕ) → k ≤ Kind.UnknownIntNeg → Kind.UnknownIntNeg < l → equal_node k a l b ≡ false
leaf_other k a l b h g = right_known k a l b (omega arith) (omega arith) (omega arith)

other_leaf : (k a l b : ℕ) → Kind.UnknownIntNeg < k → l ≤ Kind.UnknownIntNeg → equal_node k a l b ≡ false
other_leaf k a l b h g = left_known k a l b (omega arith) (omega arith) (omega arith)

-- the number of fields, tested first, may be tested last
later : (e n q s : Bool) → (e && (n && (q && s))) ≡ (n && q && (e && s))
later e true true s = refl
later e true false s = and-false e
later e false q s = and-false e

-- A type's nodes say where it ends: whatever stands after two types, the nodes are compared as the types and then as what stands after them.
mutual
  unfolding Good kinds_of args_of equal equal_node is_unknown_int among starts_with count

  starts : (t u : DataType) → Good t → Good u → (ks xs ls ys : List ℕ) → starts_with (kinds_of t ++ ks) (args_of t ++ xs) (kinds_of u ++ ls) (args_of u ++ ys) ≡ (equal t u && starts_with ks xs ls ys)
  starts (leaf k a) (leaf l b) r s ks xs ls ys = refl
  starts (leaf k a) (list u) r s ks xs ls ys = rw (leaf_other k a Kind.List 0 r (omega arith))
  starts (leaf k a) (array w u) r s ks xs ls ys = rw (leaf_other k a Kind.Array w r (omega arith))
  starts (leaf k a) (struct gs) r s ks xs ls ys = rw (leaf_other k a Kind.Struct (count gs) r (omega arith))
  starts (list t) (leaf l b) r s ks xs ls ys = rw (other_leaf Kind.List 0 l b (omega arith) s)
  starts (list t) (list u) r s ks xs ls ys = starts t u r s ks xs ls ys
  starts (list t) (array w u) r s ks xs ls ys = refl
  starts (list t) (struct gs) r s ks xs ls ys = refl
  starts (array v t) (leaf l b) r s ks xs ls ys = rw (other_leaf Kind.Array v l b (omega arith) s)
  starts (array v t) (list u) r s ks xs ls ys = refl
  starts (array v t) (array w u) r s ks xs ls ys = rw (starts t u r s ks xs ls ys) (sym (and_assoc (eqb v w) (equal t u) (starts_with ks xs ls ys)))
  starts (array v t) (struct gs) r s ks xs ls ys = refl
  starts (struct fs) (leaf l b) r s ks xs ls ys = rw (other_leaf Kind.Struct (count fs) l b (omega arith) s)
  starts (struct fs) (list u) r s ks xs ls ys = refl
  starts (struct fs) (array w u) r s ks xs ls ys = refl
  starts (struct fs) (struct gs) r s ks xs ls ys = starts_fields fs gs r s ks xs ls ys

  starts_fields : (fs gs : Fields) → Goods fs → Goods gs → (ks xs ls ys : List ℕ)
      → (eqb (count fs) (count gs) && starts_with (kinds_ofs fs ++ ks) (args_ofs fs ++ xs) (kinds_ofs gs ++ ls) (args_ofs gs ++ ys)) ≡ (equal_fields fs gs && starts_with ks xs ls ys)
  starts_fields empty empty r s ks xs ls ys = refl
  starts_fields empty (field other u gs) r s ks xs ls ys = rw eqb-zero-suc
  starts_fields (field name t fs) empty r s ks xs ls ys = rw eqb-suc-zero
  starts_fields (field name t fs) (field other u gs) r s ks xs ls ys =
      rw (
        eqb-suc-suc,
        append_assoc (kinds_of t) (kinds_ofs fs) ks,
        append_assoc (args_of t) (args_ofs fs) xs,
        append_assoc (kinds_of u) (kinds_ofs gs) ls,
        append_assoc (args_of u) (args_ofs gs) ys,
        starts t u r.0 s.0 (kinds_ofs fs ++ ks) (args_ofs fs ++ xs) (kinds_ofs gs ++ ls) (args_ofs gs ++ ys),
        later (eqb (count fs) (count gs)) (eqb name other) (equal t u),
        starts_fields fs gs r.1 s.1 ks xs ls ys,
        and_assoc (eqb name other && equal t u),
      )

-- the front of a type's nodes, whatever stands after those
pub starts_type : (t u : DataType) → Good t → Good u → (ks xs : List ℕ)
    → starts_with (kinds_of t ++ ks) (args_of t ++ xs) (kinds_of u) (args_of u) ≡ equal t u
unfolding starts_with
starts_type t u r s ks xs = ap₂ (starts_with (kinds_of t ++ ks) (args_of t ++ xs)) (sym (append-nil (kinds_of u))) (sym (append-nil (args_of u))) ∙ starts t u r s ks xs [] [] ∙ and-true (equal t u)

-- no type starts with a field
starts_field : (u : DataType) → Good u → (name : ℕ) (ks xs : List ℕ) → starts_with (Kind.Field ∷ ks) (name ∷ xs) (kinds_of u) (args_of u) ≡ false
unfolding Good kinds_of args_of equal_node is_unknown_int among starts_with
starts_field (leaf l b) s name ks xs = rw (other_leaf Kind.Field name l b (omega arith) s)
starts_field (list u) s name ks xs = refl
starts_field (array w u) s name ks xs = refl
starts_field (struct gs) s name ks xs = refl

-- a type has a node
starts_none : (u : DataType) → starts_with [] [] (kinds_of u) (args_of u) ≡ false
unfolding kinds_of args_of starts_with
starts_none (leaf l b) = refl
starts_none (list u) = refl
starts_none (array w u) = refl
starts_none (struct gs) = refl

-- A type that stands somewhere stands in the first of two, or in what follows it.
module _ (u : DataType) (s : Good u) where
  mutual
    unfolding Good kinds_of args_of contains_dtype_recursive occurs

    occurs_type : (t : DataType) → Good t → (ks xs : List ℕ) → occurs (kinds_of t ++ ks) (args_of t ++ xs) (kinds_of u) (args_of u) ≡ (contains_dtype_recursive t u || occurs ks xs (kinds_of u) (args_of u))
    occurs_type (leaf k a) r ks xs = rw (starts_type (leaf k a) u r s ks xs)
    occurs_type (list t) r ks xs = rw (starts_type (list t) u r s ks xs, occurs_type t r ks xs, or_assoc)
    occurs_type (array w t) r ks xs = rw (starts_type (array w t) u r s ks xs, occurs_type t r ks xs, or_assoc)
    occurs_type (struct fs) r ks xs = rw (starts_type (struct fs) u r s ks xs, occurs_fields fs r ks xs, or_assoc)

    occurs_fields : (fs : Fields) → Goods fs → (ks xs : List ℕ) → occurs (kinds_ofs fs ++ ks) (args_ofs fs ++ xs) (kinds_of u) (args_of u) ≡ (any_contains_dtype fs u || occurs ks xs (kinds_of u) (args_of u))
    occurs_fields empty r ks xs = refl
    occurs_fields (field name t fs) r ks xs =
        rw (
          append_assoc (kinds_of t) (kinds_ofs fs) ks,
          append_assoc (args_of t) (args_ofs fs) xs,
          starts_field u s name (kinds_of t ++ (kinds_ofs fs ++ ks)) (args_of t ++ (args_ofs fs ++ xs)),
          occurs_type t r.0 (kinds_ofs fs ++ ks) (args_ofs fs ++ xs),
          occurs_fields fs r.1 ks xs,
          or_assoc,
        )

-- nodes stand at their own front
pub starts_self : (ks xs : List ℕ) → starts_with ks xs ks xs ≡ true
unfolding starts_with
starts_self [] xs = refl
starts_self (k ∷ ks) [] = refl
starts_self (k ∷ ks) (a ∷ xs) = rw (nodes_same k a k a refl refl) (starts_self ks xs)

-- equal types have as many nodes
mutual
  unfolding equal size

  pub equal_size : (t u : DataType) → equal t u ≡ true → size t ≡ size u
  equal_size (leaf k a) (leaf l b) e = refl
  equal_size (leaf k a) (list u) e = never e
  equal_size (leaf k a) (array w u) e = never e
  equal_size (leaf k a) (struct gs) e = never e
  equal_size (list t) (leaf l b) e = never e
  equal_size (list t) (list u) e = ap suc (equal_size t u e)
  equal_size (list t) (array w u) e = never e
  equal_size (list t) (struct gs) e = never e
  equal_size (array v t) (leaf l b) e = never e
  equal_size (array v t) (list u) e = never e
  equal_size (array v t) (array w u) e = ap suc (equal_size t u ((and-eq-true_iff (eqb v w) (equal t u)).0 e).1)
  equal_size (array v t) (struct gs) e = never e
  equal_size (struct fs) (leaf l b) e = never e
  equal_size (struct fs) (list u) e = never e
  equal_size (struct fs) (array w u) e = never e
  equal_size (struct fs) (struct gs) e = ap suc (equal_sizes fs gs e)

  equal_sizes : (fs gs : Fields) → equal_fields fs gs ≡ true → sizes fs ≡ sizes gs
  equal_sizes empty empty e = refl
  equal_sizes empty (field other u gs) e = never e
  equal_sizes (field name t fs) empty e = never e
  equal_sizes (field name t fs) (field other u gs) e =
      let s = simp and-eq-true_iff at e in
      ap suc (ap₂ ◌+◌ (equal_size t u s.0.1) (equal_sizes fs gs s.1))

-- each leaf of a valid type has a leaf's kind
good : {nodes deep : ℕ} {ks xs : List ℕ} {t : DataType} → Holds nodes deep ks xs t → Good t
good {ks = ks} {xs = xs} h = (subst (λ (q : Option DataType). Sound ks xs q) (form_read (holds_form h)) (sound ks xs)).2

-- what the scans say where the four lists are the flat forms of two valid types
module _ {nodes deep : ℕ} {ks xs ls ys : List ℕ} {t u : DataType} (left : Holds nodes deep ks xs t) (right : Holds nodes deep ls ys u) where
  pub starts_equal : starts_with ks xs ls ys ≡ equal t u
  starts_equal =
      rw (left.kinds, left.args, right.kinds, right.args)
      (ap₂ (λ (l m : List ℕ). starts_with l m (kinds_of u) (args_of u)) (sym (append-nil (kinds_of t))) (sym (append-nil (args_of t)))
      ∙ starts_type t u (good left) (good right) [] [])

  pub occurs_contains : occurs ks xs ls ys ≡ contains_dtype_recursive t u
  unfolding occurs
  occurs_contains =
      rw (left.kinds, left.args, right.kinds, right.args)
      (ap₂ (λ (l m : List ℕ). occurs l m (kinds_of u) (args_of u)) (sym (append-nil (kinds_of t))) (sym (append-nil (args_of t)))
      ∙ occurs_type u (good right) t (good left) [] []
      ∙ rw (starts_none u, or-false))

  pub alike_equal : alike ks xs ls ys ≡ equal t u
  unfolding alike
  alike_equal = rw starts_equal (go (equal t u) refl)
    where
      kinds : length ks ≡ size t
      kinds = ap length left.kinds ∙ length_kinds t

      others : (length ls ≡ size u) × (length ys ≡ size u)
      others = (ap length right.kinds ∙ length_kinds u, ap length right.args ∙ length_args u)

      go : (b : Bool) → equal t u ≡ b → (eqb (length ks) (length ls) && eqb (length ls) (length ys) && b) ≡ b
      go true e = let n = equal_size t u e in rw (eq-eqb (length ks) (length ls) (omega (arith, kinds, others)), eq-eqb (length ls) (length ys) (omega (arith, others)))
      go false e = and-false (eqb (length ks) (length ls) && eqb (length ls) (length ys))
