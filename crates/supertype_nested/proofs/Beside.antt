-- A nested type with a leaf, and a Struct with a List or an Array: what the two tries come to. Assumes nothing.
use Rattle.std.specs.Option.{option_or}
use mathlib.Core.Path.{◌≡◌, refl, sym, ap, ap₂, ◌∙◌}
use mathlib.Core.Bool.{Bool, true, false, cond, ◌&&◌, ◌||◌}
use Rattle.std.specs.Prelude.{Option, None, Some}
use Rattle.std.specs.Prelude.{option_map}
use Prim.Native.Nat.{ℕ, ◌≤◌}
use native.Mathlib.Omega.{arith}
use lib.Dec.{eqb}
use borrow.Author.Tests.{eqb-true, ne_eqb}
use Rattle.flat.specs.Kind as kind
use Rattle.flat.specs.Tree.{DataType, leaf, list, array, struct, Fields, head_kind}
use Rattle.flat.proofs.Truths.{never}
use Rattle.dtype.specs.Predicate.{is_unknown_int, is_primitive_numeric, is_unknown}
use Rattle.dtype.specs.Equality.{equal}
use Rattle.dtype_inner.specs.Inner.{inner_dtype}
use Rattle.supertype_arms.specs.Supertype.{is, arms, choose, run}
use Rattle.supertype_arms.specs.Supertype.{TreePlan, no_type, left_type, roots}
use Rattle.supertype_arms.specs.Supertype.{lists, arrays, implode_left, implode_right, first_field, structs, each_field}
use Rattle.supertype_arms.specs.declared.plan.Plan.TheVariants.{Kind}
use Rattle.supertype_nested.specs.Nested.{SuperTypeOptions, TreeCall, run_tree, tree_plan, inner_tree}
use Rattle.supertype_nested.specs.Nested.{supertype_tree_with}
use Rattle.supertype_nested.specs.Step.{Fair, beside_arms, plan_beside, plan_before}
use Rattle.supertype_nested.proofs.Found.{no_some}
use Rattle.supertype_nested.proofs.Chosen.{takes, plan_at, at_plan}
use Rattle.supertype_nested.proofs.Steps.{settle}

-- a type that is nested
pub data IsNested : DataType → Type 0 where
  is_list : {t : DataType} → IsNested (list t)
  is_array : {w : ℕ} {t : DataType} → IsNested (array w t)
  is_struct : {fs : Fields} → IsNested (struct fs)

-- ---- the plans

module _ (k : ℕ) (h : k ≤ kind.UnknownIntNeg) where
  -- a leaf's kind is no nested one
  no_list : eqb k kind.List ≡ false
  no_list = ne_eqb k kind.List (λ e. omega arith)

  no_array : eqb k kind.Array ≡ false
  no_array = ne_eqb k kind.Array (λ e. omega arith)

  no_struct : eqb k kind.Struct ≡ false
  no_struct = ne_eqb k kind.Struct (λ e. omega arith)

  -- the arms that take a List on the left, by whether the right kind is a List or an Array
  abbrev of_list : Bool → Bool → Bool → TreePlan
  of_list i x y =
      takes (is kind.String k) (roots (Kind kind.String))
      (takes (is kind.Null k) left_type
      (takes x lists
      (takes y lists
      (takes (i && true) implode_left
      (takes (x && i) implode_right
      (takes (is_unknown k) (roots (Kind kind.UnknownAny)) no_type))))))

  -- an Array, by the same
  abbrev of_array : Bool → Bool → Bool → TreePlan
  of_array i x y =
      takes (is kind.String k) (roots (Kind kind.String))
      (takes (is kind.Null k) left_type
      (takes x lists
      (takes y arrays
      (takes (x && i) implode_right
      (takes (is_unknown k) (roots (Kind kind.UnknownAny)) no_type)))))

  -- a Struct, by whether the right kind is a List or a Struct
  abbrev of_struct : Bool → Bool → Bool → TreePlan
  of_struct i x y =
      takes (is kind.String k) (roots (Kind kind.String))
      (takes (is kind.Null k) left_type
      (takes (x && i) implode_right
      (takes (is kind.UnknownFloat k || is_unknown_int k) first_field
      (takes y structs
      (takes (is_primitive_numeric k) each_field
      (takes (is_unknown k) (roots (Kind kind.UnknownAny)) no_type))))))

  -- of a leaf on the right they leave those of `beside_arms`
  list_beside : (i s : Bool) → choose (arms i s) kind.List k ≡ plan_beside i kind.List k
  unfolding plan_at plan_beside beside_arms
  list_beside i true = ap₂ (of_list i) no_list no_array
  list_beside i false = ap₂ (of_list i) no_list no_array

  array_beside : (i s : Bool) → choose (arms i s) kind.Array k ≡ plan_beside i kind.Array k
  unfolding plan_at plan_beside beside_arms
  array_beside i true = ap₂ (of_array i) no_list no_array
  array_beside i false = ap₂ (of_array i) no_list no_array

  struct_beside : (i s : Bool) → choose (arms i s) kind.Struct k ≡ plan_beside i kind.Struct k
  unfolding plan_at plan_beside beside_arms
  struct_beside i true = ap₂ (of_struct i) no_list no_struct
  struct_beside i false = ap₂ (of_struct i) no_list no_struct

  -- the leaf on the left
  before_list : (o : SuperTypeOptions) → tree_plan o k kind.List ≡ plan_before o.allow_implode_list kind.List
  unfolding plan_at plan_before
  before_list o =
      at_plan o k kind.List
      ∙ ap₂
      (λ (x y : Bool).
      takes x lists
      (takes y lists
      (takes (x && o.allow_implode_list) implode_left
      (takes (o.allow_implode_list && true) implode_right no_type))))
      no_list no_array
      ∙ go o.allow_implode_list
    where
      go : (i : Bool) → takes (i && true) implode_right no_type ≡ cond i implode_right no_type
      go true = refl
      go false = refl

  before_array : (o : SuperTypeOptions) → tree_plan o k kind.Array ≡ plan_before o.allow_implode_list kind.Array
  unfolding plan_at plan_before
  before_array o =
      at_plan o k kind.Array
      ∙ ap₂
      (λ (x y : Bool). takes x lists (takes y arrays (takes (x && o.allow_implode_list) implode_left no_type)))
      no_list no_array

  before_struct : (o : SuperTypeOptions) → tree_plan o k kind.Struct ≡ plan_before o.allow_implode_list kind.Struct
  unfolding plan_at plan_before
  before_struct o =
      at_plan o k kind.Struct
      ∙ ap₂ (λ (x y : Bool). takes (x && o.allow_implode_list) implode_left (takes y structs no_type))
      no_list no_struct

  module _ (o : SuperTypeOptions) where
    -- The two plans of a nested type with a leaf.
    pub plan_beside_lem : {n : DataType} → IsNested n
        → tree_plan o (head_kind n) k ≡ plan_beside o.allow_implode_list (head_kind n) k
    unfolding tree_plan head_kind
    plan_beside_lem is_list = list_beside o.allow_implode_list o.allow_primitive_to_string
    plan_beside_lem is_array = array_beside o.allow_implode_list o.allow_primitive_to_string
    plan_beside_lem is_struct = struct_beside o.allow_implode_list o.allow_primitive_to_string

    pub plan_before_lem : {n : DataType} → IsNested n
        → tree_plan o k (head_kind n) ≡ plan_before o.allow_implode_list (head_kind n)
    unfolding head_kind
    plan_before_lem is_list = before_list o
    plan_before_lem is_array = before_array o
    plan_before_lem is_struct = before_struct o

-- ---- a nested type with a leaf

not_equal : {n : DataType} (k a : ℕ) → IsNested n → (equal n (leaf k a) ≡ false) × (equal (leaf k a) n ≡ false)
unfolding equal
not_equal k a is_list = (refl, refl)
not_equal k a is_array = (refl, refl)
not_equal k a is_struct = (refl, refl)

module _ (c : TreeCall) (o : SuperTypeOptions) (k a : ℕ) (h : k ≤ kind.UnknownIntNeg) where
  -- what the arms answer with the nested type on the left, and with it on the right
  abbrev pub beside : DataType → Option DataType
  beside n = run_tree c (plan_beside o.allow_implode_list (head_kind n) k) n (leaf k a)

  abbrev pub before : DataType → Option DataType
  before n = run_tree c (plan_before o.allow_implode_list (head_kind n)) (leaf k a) n

  -- None on the left is None on the right: only a List has a plan there, and it makes the same call
  none_before : {n : DataType} → IsNested n → beside n ≡ None → before n ≡ None
  unfolding head_kind run_tree inner_dtype run plan_beside beside_arms plan_before
  none_before (is_list {t}) e = go o.allow_implode_list (is kind.String k) (is kind.Null k) e
    where
      go : (i x y : Bool)
          → run_tree c
          (takes x (roots (Kind kind.String)) (takes y left_type
          (takes (i && true) implode_left (takes (is_unknown k) (roots (Kind kind.UnknownAny)) no_type))))
          (list t) (leaf k a)
          ≡ None
          → run_tree c (cond i implode_right no_type) (leaf k a) (list t) ≡ None
      go true true y e = no_some e
      go true false true e = no_some e
      go true false false e = e
      go false x y e = refl
  none_before is_array e = refl
  none_before is_struct e = refl

  -- The nested type on the left: the first try decides, so that the code makes one.
  pub nested_leaf : {n : DataType} → IsNested n → supertype_tree_with c o n (leaf k a) ≡ beside n
  unfolding head_kind
  nested_leaf {n} v =
      settle c o n (leaf k a) (plan_beside o.allow_implode_list (head_kind n) k)
      (plan_before o.allow_implode_list (head_kind n)) (plan_beside_lem k h o v) (plan_before_lem k h o v)
      (λ e. never (sym (not_equal k a v).0 ∙ e)) (λ e. never (sym (not_equal k a v).1 ∙ e)) (none_before v)

  -- The nested type on the right: a List that takes the leaf in comes first.
  pub leaf_nested : {n : DataType} → IsNested n → supertype_tree_with c o (leaf k a) n ≡ option_or (before n) (beside n)
  unfolding supertype_tree_with inner_tree head_kind
  leaf_nested {n} v =
      ap₂ option_or
      (ap₂ (λ (b : Bool) (p : TreePlan). cond b (Some (leaf k a)) (run_tree c p (leaf k a) n)) (not_equal k a v).1
      (plan_before_lem k h o v))
      (ap₂ (λ (b : Bool) (p : TreePlan). cond b (Some n) (run_tree c p n (leaf k a))) (not_equal k a v).0
      (plan_beside_lem k h o v))

  -- Where no List takes the leaf in, the order does not count.
  pub leaf_beside : {n : DataType} → IsNested n → (is kind.List (head_kind n) && o.allow_implode_list) ≡ false
      → supertype_tree_with c o (leaf k a) n ≡ beside n
  unfolding plan_before run_tree run
  leaf_beside {n} v e =
      leaf_nested v
      ∙ ap (λ (b : Bool). option_or (run_tree c (cond b implode_right no_type) (leaf k a) n) (beside n)) e

  module _ (fair : Fair c) (on : o.allow_implode_list ≡ true) (t : DataType) where
    -- A List that takes in a leaf on its left which is no String: one call.
    pub leaf_list : eqb k kind.String ≡ false → supertype_tree_with c o (leaf k a) (list t) ≡ option_map list (c t (leaf k a))
    unfolding head_kind run_tree inner_dtype plan_beside beside_arms plan_before
    leaf_list e =
        leaf_nested is_list ∙ ap₂ (tries (is kind.Null k)) e on ∙ go (is kind.Null k) refl (c t (leaf k a)) refl
      where
        tries : Bool → Bool → Bool → Option DataType
        tries y x i =
            option_or (run_tree c (cond i implode_right no_type) (leaf k a) (list t))
            (run_tree c
            (takes x (roots (Kind kind.String)) (takes y left_type
            (takes (i && true) implode_left (takes (is_unknown k) (roots (Kind kind.UnknownAny)) no_type))))
            (list t) (leaf k a))

        go : (y : Bool) → is kind.Null k ≡ y → (q : Option DataType) → c t (leaf k a) ≡ q
            → option_or (option_map list q) (run_tree c (takes y left_type implode_left) (list t) (leaf k a)) ≡ option_map list q
        go y n (Some u) e = refl
        go true n None e =
            no_some (sym (fair.null t a) ∙ ap (λ (k : ℕ). c t (leaf k a)) (sym (eqb-true k kind.Null n)) ∙ e)
        go false n None e = ap (option_map list) e

-- String on the left of a List that takes it in: of a leaf, the one case in which both tries count.
pub string_list : (c : TreeCall) (o : SuperTypeOptions) (a : ℕ) → o.allow_implode_list ≡ true → (t : DataType)
    → supertype_tree_with c o (leaf kind.String a) (list t)
    ≡ option_or (option_map list (c t (leaf kind.String a))) (Some (leaf kind.String 0))
unfolding head_kind run_tree inner_dtype run plan_beside beside_arms plan_before
string_list c o a on t =
    leaf_nested c o kind.String a (omega arith) is_list
    ∙ ap
    (λ (i : Bool).
    option_or (run_tree c (cond i implode_right no_type) (leaf kind.String a) (list t))
    (Some (leaf kind.String 0)))
    on

-- Null on the left of a nested type: that type.
pub null_nested : (c : TreeCall) → Fair c → (o : SuperTypeOptions) (a : ℕ) {n : DataType} → IsNested n
    → supertype_tree_with c o (leaf kind.Null a) n ≡ Some n
unfolding head_kind run_tree inner_dtype run plan_beside beside_arms plan_before
null_nested c fair o a {n} v = leaf_nested c o kind.Null a (omega arith) v ∙ go o.allow_implode_list v
  where
    go : (i : Bool) {n : DataType} → IsNested n
        → option_or (run_tree c (plan_before i (head_kind n)) (leaf kind.Null a) n) (Some n) ≡ Some n
    go true (is_list {t}) =
        ap (λ (q : Option DataType). option_or (option_map list q) (Some (list t))) (fair.null t a)
    go false is_list = refl
    go i is_array = refl
    go i is_struct = refl

-- ---- a Struct with a List or an Array

module _ (c : TreeCall) (o : SuperTypeOptions) where
  -- what a List comes to that takes in another type, where Lists do
  abbrev pub taken_in : Bool → DataType → DataType → Option DataType
  taken_in i t u = cond i (option_map list (c t u)) None

  left_in : (i : Bool) (t u : DataType) → run_tree c (takes i implode_left no_type) (list t) u ≡ taken_in i t u
  unfolding run_tree inner_dtype run
  left_in true t u = refl
  left_in false t u = refl

  right_in : (i : Bool) (t u : DataType)
      → run_tree c (takes (i && true) implode_right no_type) u (list t) ≡ taken_in i t u
  unfolding run_tree inner_dtype run
  right_in true t u = refl
  right_in false t u = refl

  list_struct : tree_plan o kind.List kind.Struct ≡ takes o.allow_implode_list implode_left no_type
  unfolding plan_at
  list_struct = at_plan o kind.List kind.Struct

  struct_list : tree_plan o kind.Struct kind.List ≡ takes (o.allow_implode_list && true) implode_right no_type
  unfolding plan_at
  struct_list = at_plan o kind.Struct kind.List

  array_struct : tree_plan o kind.Array kind.Struct ≡ no_type
  unfolding plan_at
  array_struct = at_plan o kind.Array kind.Struct

  struct_array : tree_plan o kind.Struct kind.Array ≡ no_type
  unfolding plan_at
  struct_array = at_plan o kind.Struct kind.Array

  -- A List takes the Struct in, where Lists do: one call.
  pub list_with_struct : (t : DataType) (fs : Fields)
      → supertype_tree_with c o (list t) (struct fs) ≡ taken_in o.allow_implode_list t (struct fs)
  unfolding head_kind equal
  list_with_struct t fs =
      settle c o (list t) (struct fs) _ _ list_struct struct_list (λ e. never e) (λ e. never e)
      (λ e. right_in o.allow_implode_list t (struct fs) ∙ sym (left_in o.allow_implode_list t (struct fs)) ∙ e)
      ∙ left_in o.allow_implode_list t (struct fs)

  pub struct_with_list : (t : DataType) (fs : Fields)
      → supertype_tree_with c o (struct fs) (list t) ≡ taken_in o.allow_implode_list t (struct fs)
  unfolding head_kind equal
  struct_with_list t fs =
      settle c o (struct fs) (list t) _ _ struct_list list_struct (λ e. never e) (λ e. never e)
      (λ e. left_in o.allow_implode_list t (struct fs) ∙ sym (right_in o.allow_implode_list t (struct fs)) ∙ e)
      ∙ right_in o.allow_implode_list t (struct fs)

  -- An Array and a Struct have nothing in common.
  pub array_with_struct : (w : ℕ) (t : DataType) (fs : Fields) → supertype_tree_with c o (array w t) (struct fs) ≡ None
  unfolding head_kind equal run_tree run
  array_with_struct w t fs =
      settle c o (array w t) (struct fs) no_type no_type array_struct struct_array (λ e. never e) (λ e. never e)
      (λ e. e)

  pub struct_with_array : (w : ℕ) (t : DataType) (fs : Fields) → supertype_tree_with c o (struct fs) (array w t) ≡ None
  unfolding head_kind equal run_tree run
  struct_with_array w t fs =
      settle c o (struct fs) (array w t) no_type no_type struct_array array_struct (λ e. never e) (λ e. never e)
      (λ e. e)
