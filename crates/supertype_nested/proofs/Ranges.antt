-- The plan of a nested type with a leaf on its right, by the leaf's kind as a number. Assumes nothing.
use mathlib.Core.Path.{◌≡◌, refl, sym, ap, ◌∙◌}
use mathlib.Core.Bool.{Bool, true, false, ◌&&◌, ◌||◌}
use Prim.Native.Nat.{ℕ, ◌≤◌, ◌<◌}
use native.Mathlib.Omega.{arith}
use borrow.Author.Tests.{ne_eqb}
use Rattle.flat.specs.Kind as kind
use Rattle.flat.specs.Tree.{DataType, leaf, head_kind}
use Rattle.dtype.specs.Predicate.{is_unknown_int, is_primitive_numeric, is_unknown}
use Rattle.dtype.proofs.Runs.{says, of_run}
use Rattle.supertype_arms.specs.Supertype.{is, TreePlan, no_type, left_type, roots, implode_left, first_field, each_field}
use Rattle.supertype_arms.specs.declared.plan.Plan.TheVariants.{Kind}
use Rattle.supertype_nested.specs.Nested.{SuperTypeOptions, TreeCall, run_tree, supertype_tree_with}
use Rattle.supertype_nested.specs.Step.{beside_arms, plan_beside}
use Rattle.supertype_nested.proofs.Chosen.{takes}
use Rattle.supertype_nested.proofs.Beside.{IsNested, nested_leaf, leaf_beside}

-- ---- String and Null

pub beside_string : (i : Bool) (n : ℕ) → plan_beside i n kind.String ≡ roots (Kind kind.String)
unfolding plan_beside beside_arms
beside_string i n = refl

pub beside_null : (i : Bool) (n : ℕ) → plan_beside i n kind.Null ≡ left_type
unfolding plan_beside beside_arms
beside_null i n = refl

-- ---- other leaves

-- dyn float and the dyn ints
abbrev is_dyn : ℕ → Bool
is_dyn k = is kind.UnknownFloat k || is_unknown_int k

module _ (k : ℕ) (h : k ≤ kind.UnknownIntNeg) (s : k ≡ kind.String → ⊥) (z : k ≡ kind.Null → ⊥) where
  -- the arms, by what they test
  abbrev tested : Bool → Bool → Bool → Bool → TreePlan
  tested list dyn number unknown =
      takes list implode_left
      (takes dyn first_field
      (takes number each_field
      (takes unknown (roots (Kind kind.UnknownAny)) no_type)))

  by_tests : (i : Bool) (n : ℕ)
      → plan_beside i n k
      ≡ tested ((is kind.List n && i) && true) (is kind.Struct n && is_dyn k)
      (is kind.Struct n && is_primitive_numeric k) (is_unknown k)
  unfolding plan_beside beside_arms
  by_tests i n =
      λ j. takes (ne_eqb k kind.String s j) (roots (Kind kind.String))
      (takes (ne_eqb k kind.Null z j) left_type
      (tested ((is kind.List n && i) && true) (is kind.Struct n && is_dyn k)
      (is kind.Struct n && is_primitive_numeric k) (is_unknown k)))

  unknown : kind.UnknownAny ≤ k → is_unknown k ≡ true
  unknown l = sym (of_run is_unknown true kind.UnknownAny 5 (unfold says in tt) k (omega arith))

  known : k < kind.UnknownAny → is_unknown k ≡ false
  known l = sym (of_run is_unknown false 0 kind.UnknownAny (unfold says in tt) k (omega arith))

  dyn : kind.UnknownFloat ≤ k → is_dyn k ≡ true
  dyn l = sym (of_run is_dyn true kind.UnknownFloat 3 (unfold says in tt) k (omega arith))

  no_dyn : k < kind.UnknownFloat → is_dyn k ≡ false
  no_dyn l = sym (of_run is_dyn false 0 kind.UnknownFloat (unfold says in tt) k (omega arith))

  -- a List that takes the leaf in
  pub beside_list : plan_beside true kind.List k ≡ implode_left
  beside_list = by_tests true kind.List

  -- a List that doesn't, and an Array
  pub list_any : kind.UnknownAny ≤ k → plan_beside false kind.List k ≡ roots (Kind kind.UnknownAny)
  list_any l = by_tests false kind.List ∙ ap (tested false false false) (unknown l)

  pub list_none : k < kind.UnknownAny → plan_beside false kind.List k ≡ no_type
  list_none l = by_tests false kind.List ∙ ap (tested false false false) (known l)

  pub array_any : (i : Bool) → kind.UnknownAny ≤ k → plan_beside i kind.Array k ≡ roots (Kind kind.UnknownAny)
  array_any i l = by_tests i kind.Array ∙ ap (tested false false false) (unknown l)

  pub array_none : (i : Bool) → k < kind.UnknownAny → plan_beside i kind.Array k ≡ no_type
  array_none i l = by_tests i kind.Array ∙ ap (tested false false false) (known l)

  -- a Struct
  pub struct_first : (i : Bool) → kind.UnknownFloat ≤ k → plan_beside i kind.Struct k ≡ first_field
  struct_first i l =
      by_tests i kind.Struct ∙ ap (λ (d : Bool). tested false d (is_primitive_numeric k) (is_unknown k)) (dyn l)

  pub struct_each : (i : Bool) → k < kind.UnknownFloat → is_primitive_numeric k ≡ true
      → plan_beside i kind.Struct k ≡ each_field
  struct_each i l p = by_tests i kind.Struct ∙ (λ j. tested false (no_dyn l j) (p j) (is_unknown k))

  pub struct_any : (i : Bool) → kind.UnknownAny ≤ k → k < kind.UnknownFloat
      → plan_beside i kind.Struct k ≡ roots (Kind kind.UnknownAny)
  struct_any i l m = by_tests i kind.Struct ∙ (λ j. tested false (no_dyn m j) (no_number j) (unknown l j))
    where
      no_number : is_primitive_numeric k ≡ false
      no_number = sym (of_run is_primitive_numeric false kind.UnknownAny 2 (unfold says in tt) k (omega arith))

  pub struct_none : (i : Bool) → k < kind.UnknownAny → is_primitive_numeric k ≡ false
      → plan_beside i kind.Struct k ≡ no_type
  struct_none i l p = by_tests i kind.Struct ∙ (λ j. tested false (no_dyn (omega arith) j) (p j) (known l j))

-- ---- the answer by the plan

module _ (c : TreeCall) (o : SuperTypeOptions) (k a : ℕ) (h : k ≤ kind.UnknownIntNeg) {n : DataType} (v : IsNested n)
    (p : TreePlan) (e : plan_beside o.allow_implode_list (head_kind n) k ≡ p) where
  -- The nested type on the left.
  pub left_by : supertype_tree_with c o n (leaf k a) ≡ run_tree c p n (leaf k a)
  left_by = nested_leaf c o k a h v ∙ ap (λ (p : TreePlan). run_tree c p n (leaf k a)) e

  -- And on the right, where no List takes the leaf in.
  pub right_by : (is kind.List (head_kind n) && o.allow_implode_list) ≡ false
      → supertype_tree_with c o (leaf k a) n ≡ run_tree c p n (leaf k a)
  right_by f = leaf_beside c o k a h v f ∙ ap (λ (p : TreePlan). run_tree c p n (leaf k a)) e
