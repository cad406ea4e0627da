-- `can_cast_to` by the roots of two types: what they decide, and else the arm of their kind. Equal types have yes from
-- their arms too, so that the arms need no test of equality. Assumes nothing.
use mathlib.Core.Path.{◌≡◌, refl, sym, ap}
use mathlib.Core.Bool.{Bool, true, false, cond, ◌&&◌, and-false}
use Rattle.std.specs.Prelude.{Option, None, Some}
use Prim.Native.Nat.{ℕ, suc, ◌≤◌}
use native.Mathlib.Omega.{arith}
use lib.Dec.{eqb}
use borrow.Author.Tests.{le-leb, eq-eqb, ne_eqb}
use Rattle.flat.specs.Kind
use Rattle.flat.specs.Tree.{DataType, leaf, list, array, struct, Fields, empty, field, count, head_kind, head_arg, size}
use Rattle.flat.proofs.Truths.{impossible, never, both_true}
use Rattle.flat.proofs.Walks.{Unary, is_list, is_array}
use Rattle.dtype.specs.Match.{among, if_list, if_array, if_struct, is_empty}
use Rattle.dtype.specs.Predicate.{is_unknown_int, is_primitive_numeric, is_float, is_integer, is_signed_integer, is_unsigned_integer}
use Rattle.dtype.specs.Equality.{equal_node, equal, equal_fields}
use Rattle.dtype_cast.specs.Cast.{casts_with_boolean, before_nested, can_cast_to, fields_cast}
use Rattle.dtype_cast.specs.Walk.{equal_leaves, early_of}

-- ---- equal types cast
pub cast_equal : (t u : DataType) → equal t u ≡ true → can_cast_to t u ≡ Some true
unfolding can_cast_to before_nested
cast_equal (leaf k a) u e = rw e
cast_equal (list t) u e = rw e
cast_equal (array w t) u e = rw e
cast_equal (struct fs) u e = rw e

-- equal fields cast, and are as many
fields_equal : (fs gs : Fields) → equal_fields fs gs ≡ true → (count fs ≡ count gs) × (fields_cast fs gs ≡ Some true)
unfolding equal can_cast_to count
fields_equal empty empty e = (refl, refl)
fields_equal empty (field other u gs) e = never e
fields_equal (field name t fs) empty e = never e
fields_equal (field name t fs) (field other u gs) e =
    let s = both_true (eqb name other && equal t u) (equal_fields fs gs) e in
    let r = fields_equal fs gs s.1 in
    (ap suc r.0, rw (cast_equal t u (both_true (eqb name other) (equal t u) s.0).1) r.1)

-- ---- the arms of nested types
abbrev pub cast_arms : DataType → DataType → Option Bool
cast_arms (leaf k a) to = None
cast_arms (list t) to = if_list None (can_cast_to t) to
cast_arms (array w t) to = if_array None (λ v u. cond (eqb w v) (can_cast_to t u) (Some false)) to
cast_arms (struct fs) to =
    if_struct None
    (λ gs. cond (is_empty fs) (Some true) (cond (eqb (count fs) (count gs)) (fields_cast fs gs) (Some false))) to

-- the roots decide, or leave it open
abbrev pub early_or : Option Bool → Option Bool → Option Bool
early_or (Some b) rest = Some b
early_or None rest = rest

-- the source's order of tests is that of the roots
in_order : (e n z f o c d : Bool) (rest : Option Bool)
    → cond e (Some true) (cond n (Some true) (cond z (Some true) (cond f (Some c) (cond o (Some d) rest))))
    ≡ early_or (cond e (Some true) (cond n (Some true) (cond z (Some true) (cond f (Some c) (cond o (Some d) None))))) rest
in_order true n z f o c d rest = refl
in_order false true z f o c d rest = refl
in_order false false true f o c d rest = refl
in_order false false false true o c d rest = refl
in_order false false false false true c d rest = refl
in_order false false false false false c d rest = refl

-- a test whose yes is the rest's answer too
pub no_test : (b : Bool) (rest : Option Bool) → (b ≡ true → rest ≡ Some true) → cond b (Some true) rest ≡ rest
no_test true rest h = sym (h refl)
no_test false rest h = refl

-- a nested type to a leaf: only Boolean decides
to_leaf : (b : Bool) → cond b (Some false) None ≡ early_or (cond b (Some false) None) None
to_leaf true = refl
to_leaf false = refl

-- a leaf is of a kind without children
abbrev pub Rooted : DataType → Type 0
Rooted (leaf k a) = k ≤ Kind.UnknownIntNeg
Rooted (list t) = Unit {0}
Rooted (array w t) = Unit {0}
Rooted (struct fs) = Unit {0}

-- of leaves the roots tell whether they are equal
leaf_equal : (k a : ℕ) → k ≤ Kind.UnknownIntNeg → (u : DataType)
    → equal (leaf k a) u ≡ equal_leaves k a (head_kind u) (head_arg u)
unfolding equal equal_leaves equal_node is_unknown_int among head_kind head_arg
leaf_equal k a h (leaf l b) = rw (le-leb k Kind.UnknownIntNeg h)
leaf_equal k a h (list u) = rw (le-leb k Kind.UnknownIntNeg h, and-false, ne_eqb k Kind.List (omega arith))
leaf_equal k a h (array v u) = rw (le-leb k Kind.UnknownIntNeg h, and-false, ne_eqb k Kind.Array (omega arith))
leaf_equal k a h (struct gs) = rw (le-leb k Kind.UnknownIntNeg h, and-false, ne_eqb k Kind.Struct (omega arith))

leaf_first : (k a : ℕ) → k ≤ Kind.UnknownIntNeg → (u : DataType)
    → can_cast_to (leaf k a) u ≡ early_or (early_of k a (head_kind u) (head_arg u)) None
unfolding can_cast_to before_nested early_of head_kind
leaf_first k a h u =
    rw (sym (leaf_equal k a h u))
    (in_order (equal (leaf k a) u) (is_primitive_numeric k && is_primitive_numeric (head_kind u)) (eqb k Kind.Null)
    (eqb k Kind.Boolean) (eqb (head_kind u) Kind.Boolean) (casts_with_boolean (head_kind u)) (casts_with_boolean k) None)

-- Arrays and Structs that are equal have yes from their arms; Lists by `cast_equal`.
arrays_equal : (w v : ℕ) (t u : DataType) → (eqb w v && equal t u) ≡ true
    → cond (eqb w v) (can_cast_to t u) (Some false) ≡ Some true
arrays_equal w v t u e = let s = both_true (eqb w v) (equal t u) e in rw s.0 (cast_equal t u s.1)

structs_equal : (fs gs : Fields) → equal_fields fs gs ≡ true
    → cond (is_empty fs) (Some true) (cond (eqb (count fs) (count gs)) (fields_cast fs gs) (Some false)) ≡ Some true
structs_equal fs gs e = let s = fields_equal fs gs e in go (is_empty fs) (eq-eqb (count fs) (count gs) s.0) s.1
  where
    go : (b : Bool) → eqb (count fs) (count gs) ≡ true → fields_cast fs gs ≡ Some true
        → cond b (Some true) (cond (eqb (count fs) (count gs)) (fields_cast fs gs) (Some false)) ≡ Some true
    go true p q = refl
    go false p q = rw p q

-- The roots decide, else the arm does.
pub roots_first : (t u : DataType) → Rooted t
    → can_cast_to t u ≡ early_or (early_of (head_kind t) (head_arg t) (head_kind u) (head_arg u)) (cast_arms t u)
unfolding can_cast_to before_nested equal early_of equal_leaves head_kind head_arg casts_with_boolean is_primitive_numeric is_float is_integer is_signed_integer is_unsigned_integer is_unknown_int among
roots_first (leaf k a) u r = leaf_first k a r u
roots_first (list t) (leaf l b) r = to_leaf (eqb l Kind.Boolean)
roots_first (list t) (list u) r = no_test (equal t u) (can_cast_to t u) (cast_equal t u)
roots_first (list t) (array v u) r = refl
roots_first (list t) (struct gs) r = refl
roots_first (array w t) (leaf l b) r = to_leaf (eqb l Kind.Boolean)
roots_first (array w t) (list u) r = refl
roots_first (array w t) (array v u) r = no_test (eqb w v && equal t u) _ (arrays_equal w v t u)
roots_first (array w t) (struct gs) r = refl
roots_first (struct fs) (leaf l b) r = to_leaf (eqb l Kind.Boolean)
roots_first (struct fs) (list u) r = refl
roots_first (struct fs) (array v u) r = refl
roots_first (struct fs) (struct gs) r = no_test (equal_fields fs gs) _ (structs_equal fs gs)

-- The roots of two nested types of one kind leave it open.
module _ (t u : DataType) where
  pub lists_arm : can_cast_to (list t) (list u) ≡ can_cast_to t u
  unfolding early_of equal_leaves head_kind casts_with_boolean is_primitive_numeric is_float is_integer is_signed_integer is_unsigned_integer is_unknown_int among
  lists_arm = roots_first (list t) (list u) tt

  pub arrays_arm : (w v : ℕ) → can_cast_to (array w t) (array v u) ≡ cond (eqb w v) (can_cast_to t u) (Some false)
  unfolding early_of equal_leaves head_kind casts_with_boolean is_primitive_numeric is_float is_integer is_signed_integer is_unsigned_integer is_unknown_int among
  arrays_arm w v = roots_first (array w t) (array v u) tt

pub structs_arm : (fs gs : Fields) → can_cast_to (struct fs) (struct gs) ≡ cast_arms (struct fs) (struct gs)
unfolding early_of equal_leaves head_kind casts_with_boolean is_primitive_numeric is_float is_integer is_signed_integer is_unsigned_integer is_unknown_int among
structs_arm fs gs = roots_first (struct fs) (struct gs) tt

not_yes : (b : Bool) {A : Type 0} → Some true ≡ cond b (Some false) None → A
not_yes true e = impossible cc
not_yes false e = impossible cc

-- A yes of the roots is one of a leaf.
pub yes_leaf : (t u : DataType) → Some true ≡ early_of (head_kind t) (head_arg t) (head_kind u) (head_arg u) → size t ≡ 1
unfolding size early_of equal_leaves head_kind casts_with_boolean is_primitive_numeric is_float is_integer is_signed_integer is_unsigned_integer is_unknown_int among
yes_leaf (leaf k a) u e = refl
yes_leaf (list t) u e = not_yes (eqb (head_kind u) Kind.Boolean) e
yes_leaf (array w t) u e = not_yes (eqb (head_kind u) Kind.Boolean) e
yes_leaf (struct fs) u e = not_yes (eqb (head_kind u) Kind.Boolean) e

-- ---- the arms by the kinds and the arguments of two roots
-- the arm of two types of different kinds
pub other_arms : (t u : DataType) → (head_kind t ≡ head_kind u → ⊥) → cast_arms t u ≡ None
unfolding head_kind
other_arms (leaf k a) u f = refl
other_arms (list t) (leaf l b) f = refl
other_arms (list t) (list u) f = absurd (f refl)
other_arms (list t) (array v u) f = refl
other_arms (list t) (struct gs) f = refl
other_arms (array w t) (leaf l b) f = refl
other_arms (array w t) (list u) f = refl
other_arms (array w t) (array v u) f = absurd (f refl)
other_arms (array w t) (struct gs) f = refl
other_arms (struct fs) (leaf l b) f = refl
other_arms (struct fs) (list u) f = refl
other_arms (struct fs) (array v u) f = refl
other_arms (struct fs) (struct gs) f = absurd (f refl)

-- the arm of two Lists, or of two Arrays of one width
pub one_arms : {k a l b : ℕ} {f g : DataType → DataType} → Unary k a f → Unary l b g → k ≡ l → b ≡ a
    → (t u : DataType) → cast_arms (f t) (g u) ≡ can_cast_to t u
one_arms is_list is_list p q t u = refl
one_arms is_list is_array p q t u = absurd (omega arith)
one_arms is_array is_list p q t u = absurd (omega arith)
one_arms (is_array {a}) (is_array {a = b}) p q t u = rw (eq-eqb a b (sym q))

-- the arm of two Arrays of different widths
pub width_arms : {k a l b : ℕ} {f g : DataType → DataType} → Unary k a f → Unary l b g → k ≡ l → (b ≡ a → ⊥)
    → (t u : DataType) → cast_arms (f t) (g u) ≡ Some false
width_arms is_list is_list p q t u = absurd (q refl)
width_arms is_list is_array p q t u = absurd (omega arith)
width_arms is_array is_list p q t u = absurd (omega arith)
width_arms (is_array {a}) (is_array {a = b}) p q t u = rw (ne_eqb a b (λ e. q (sym e)))

-- the arm of two Structs, the first with a field
pub struct_arms : (fs gs : Fields) → (count fs ≡ 0 → ⊥)
    → cast_arms (struct fs) (struct gs) ≡ cond (eqb (count fs) (count gs)) (fields_cast fs gs) (Some false)
unfolding count
struct_arms empty gs z = absurd (z refl)
struct_arms (field name t fs) gs z = refl
