-- What the two tries come to for two nested types, in the calls on their parts: where the second try is needless, and
-- where it is not. Assumes nothing.
use Rattle.std.specs.Option.{option_or}
use mathlib.Core.Path.{◌≡◌, refl, sym, ap, ap₂, ◌∙◌}
use mathlib.Core.Bool.{Bool, true, false, cond, ◌&&◌}
use Rattle.std.specs.Prelude.{Option, None, Some}
use Rattle.std.specs.Prelude.{option_map}
use Prim.Native.Nat.{ℕ, suc, ◌<◌}
use native.Mathlib.Omega.{arith}
use lib.Dec.{eqb}
use borrow.Author.Tests.{eq-eqb, ne_eqb}
use Rattle.flat.specs.Kind as kind
use Rattle.flat.specs.Tree.{DataType, leaf, list, array, struct, Fields, empty, field, count, head_kind, head_arg}
use Rattle.flat.proofs.Truths.{never, both_true}
use Rattle.dtype.specs.Equality.{equal, equal_fields}
use Rattle.dtype_inner.specs.Inner.{inner_dtype}
use Rattle.supertype_answer.specs.Join.{type_of}
use Rattle.supertype_arms.specs.Supertype.{TreePlan, left_type, lists, arrays, structs}
use Rattle.supertype_nested.specs.Nested.{SuperTypeOptions, TreeCall, union_fields, Zip, names_differ, no_join, joined}
use Rattle.supertype_nested.specs.Nested.{zip_on, zip_fields, zip_end, super_type_structs, of_widths, root_found}
use Rattle.supertype_nested.specs.Nested.{run_tree, tree_plan, inner_tree, supertype_tree_with}
use Rattle.supertype_nested.specs.Nested.{supertype_tree}
use Rattle.supertype_nested.specs.Step.{Fair, zip_either}
use Rattle.supertype_nested.proofs.Found.{no_some, map_none}
use Rattle.supertype_nested.proofs.Chosen.{plan_at, at_plan}
use Rattle.supertype_nested.proofs.Recursive.{recursive, none_symmetric}
use Rattle.supertype_nested.proofs.Union.{turned_true, turned_false}
use Rattle.supertype_nested.proofs.Names.{left_longest, right_longest}
use Rattle.supertype_nested.proofs.Leaves.{known_roots}

-- ---- the inner calls

-- equal types: the left one
with_equal : (c : TreeCall) (o : SuperTypeOptions) (l r : DataType) → equal l r ≡ true
    → supertype_tree_with c o l r ≡ Some l
unfolding supertype_tree_with inner_tree
with_equal c o l r e =
    ap
    (λ (b : Bool).
    option_or (cond b (Some l) (run_tree c (tree_plan o (head_kind l) (head_kind r)) l r)) (inner_tree c o r l)) e

-- only one arm takes Null on the right
plan_null : (o : SuperTypeOptions) (k : ℕ) → tree_plan o k kind.Null ≡ left_type
unfolding plan_at
plan_null o k = at_plan o k kind.Null

-- Null on the right: the left type, whatever the inner calls answer.
pub with_null : (c : TreeCall) (o : SuperTypeOptions) (t : DataType) (a : ℕ)
    → supertype_tree_with c o t (leaf kind.Null a) ≡ Some t
unfolding supertype_tree_with inner_tree head_kind run_tree
with_null c o t a =
    ap
    (λ (p : TreePlan).
    option_or (cond (equal t (leaf kind.Null a)) (Some t) (run_tree c p t (leaf kind.Null a)))
    (inner_tree c o (leaf kind.Null a) t))
    (plan_null o (head_kind t))
    ∙ go (equal t (leaf kind.Null a))
  where
    go : (b : Bool) → option_or (cond b (Some t) (Some t)) (inner_tree c o (leaf kind.Null a) t) ≡ Some t
    go true = refl
    go false = refl

-- The function itself is such a call, so that the laws hold of its own recursion.
pub tree_fair : (o i : SuperTypeOptions) → Fair (supertype_tree o i)
tree_fair o i =
    record {
      same = λ l r e. recursive o i l r ∙ with_equal (supertype_tree i i) o l r e;
      turn = none_symmetric o i;
      null = λ t a. recursive o i t (leaf kind.Null a) ∙ with_null (supertype_tree i i) o t a;
      known = λ l r h g.
          known_roots (supertype_tree i i) o l r h g ∙ sym (ap root_found (recursive o i (type_of l) (type_of r)));
    }

-- ---- one try

-- When the second try is needless: p is the plan of the first and q that of the second, their answers for equal types
-- are those of the test of equality, and the second is None where the first is. The code then runs p alone and makes no
-- such test.
pub settle : (c : TreeCall) (o : SuperTypeOptions) (l r : DataType) (p q : TreePlan)
    → tree_plan o (head_kind l) (head_kind r) ≡ p → tree_plan o (head_kind r) (head_kind l) ≡ q
    → (equal l r ≡ true → run_tree c p l r ≡ Some l) → (equal r l ≡ true → run_tree c q r l ≡ Some r)
    → (run_tree c p l r ≡ None → run_tree c q r l ≡ None) → supertype_tree_with c o l r ≡ run_tree c p l r
unfolding supertype_tree_with inner_tree
settle c o l r p q h g a b n =
    ap₂
    (λ (x y : TreePlan).
    option_or (cond (equal l r) (Some l) (run_tree c x l r)) (cond (equal r l) (Some r) (run_tree c y r l))) h g
    ∙ first (equal l r) (equal r l) (run_tree c p l r) a b n
  where
    second : (y : Bool) → (y ≡ true → run_tree c q r l ≡ Some r) → run_tree c q r l ≡ None
        → cond y (Some r) (run_tree c q r l) ≡ None
    second true b e = no_some (sym (b refl) ∙ e)
    second false b e = e

    first : (x y : Bool) (t : Option DataType) → (x ≡ true → t ≡ Some l) → (y ≡ true → run_tree c q r l ≡ Some r)
        → (t ≡ None → run_tree c q r l ≡ None)
        → option_or (cond x (Some l) t) (cond y (Some r) (run_tree c q r l)) ≡ t
    first true y t a b n = sym (a refl)
    first false y (Some v) a b n = refl
    first false y None a b n = second y b (n refl)

-- ---- the plans of two nested kinds

module _ (o : SuperTypeOptions) where
  list_list : tree_plan o kind.List kind.List ≡ lists
  unfolding plan_at
  list_list = at_plan o kind.List kind.List

  list_array : tree_plan o kind.List kind.Array ≡ lists
  unfolding plan_at
  list_array = at_plan o kind.List kind.Array

  array_list : tree_plan o kind.Array kind.List ≡ lists
  unfolding plan_at
  array_list = at_plan o kind.Array kind.List

  array_array : tree_plan o kind.Array kind.Array ≡ arrays
  unfolding plan_at
  array_array = at_plan o kind.Array kind.Array

  struct_struct : tree_plan o kind.Struct kind.Struct ≡ structs
  unfolding plan_at
  struct_struct = at_plan o kind.Struct kind.Struct

module _ (c : TreeCall) (fair : Fair c) (o : SuperTypeOptions) where
  -- ---- Lists and Arrays: one call on the inner types

  -- the call the other way round is None where this one is
  turned : (f g : DataType → DataType) (t u : DataType) → option_map f (c t u) ≡ None → option_map g (c u t) ≡ None
  turned f g t u e = ap (option_map g) (fair.turn t u (map_none f (c t u) e))

  -- a List of what the inner types come to
  pub two_lists : (t u : DataType) → supertype_tree_with c o (list t) (list u) ≡ option_map list (c t u)
  unfolding head_kind equal run_tree inner_dtype
  two_lists t u =
      settle c o (list t) (list u) lists lists (list_list o) (list_list o) (λ e. ap (option_map list) (fair.same t u e))
      (λ e. ap (option_map list) (fair.same u t e)) (turned list list t u)

  pub list_with_array : (w : ℕ) (t u : DataType) → supertype_tree_with c o (list t) (array w u) ≡ option_map list (c t u)
  unfolding head_kind equal run_tree inner_dtype
  list_with_array w t u =
      settle c o (list t) (array w u) lists lists (list_array o) (array_list o) (λ e. never e) (λ e. never e)
      (turned list list t u)

  pub array_with_list : (w : ℕ) (t u : DataType) → supertype_tree_with c o (array w t) (list u) ≡ option_map list (c t u)
  unfolding head_kind equal run_tree inner_dtype
  array_with_list w t u =
      settle c o (array w t) (list u) lists lists (array_list o) (list_array o) (λ e. never e) (λ e. never e)
      (turned list list t u)

  -- equal Arrays have one width
  width_same : (w v : ℕ) (t u : DataType) → equal (array w t) (array v u) ≡ true
      → option_map (of_widths w v) (c t u) ≡ Some (array w t)
  unfolding equal
  width_same w v t u e = go (eqb w v) e
    where
      go : (b : Bool) → (b && equal t u) ≡ true → option_map (λ z. cond b (array w z) (list z)) (c t u) ≡ Some (array w t)
      go true e = ap (option_map (array w)) (fair.same t u e)
      go false e = never e

  -- an Array of it where the widths are one, else a List
  pub two_arrays : (w v : ℕ) (t u : DataType)
      → supertype_tree_with c o (array w t) (array v u) ≡ option_map (of_widths w v) (c t u)
  unfolding head_kind head_arg run_tree inner_dtype
  two_arrays w v t u =
      settle c o (array w t) (array v u) arrays arrays (array_array o) (array_array o) (width_same w v t u)
      (width_same v w u t) (turned (of_widths w v) (of_widths v w) t u)

  -- ---- Structs: the loop over the fields of both

  -- which of the three a loop came to
  abbrev came : Zip → ℕ
  came names_differ = 0
  came no_join = 1
  came (joined fs) = 2

  -- a join that was found leaves it what it is
  on_some : (n : ℕ) (t : DataType) (z : Zip) → came (zip_on n (Some t) z) ≡ came z
  on_some n t names_differ = refl
  on_some n t no_join = refl
  on_some n t (joined fs) = refl

  zip_on_turned : (n m : ℕ) (p q : Option DataType) (x y : Zip) → (p ≡ None → q ≡ None) → (q ≡ None → p ≡ None)
      → came x ≡ came y → came (zip_on n p x) ≡ came (zip_on m q y)
  zip_on_turned n m None None x y h g e = refl
  zip_on_turned n m None (Some u) x y h g e = no_some (h refl)
  zip_on_turned n m (Some t) None x y h g e = no_some (g refl)
  zip_on_turned n m (Some t) (Some u) x y h g e = on_some n t x ∙ e ∙ sym (on_some m u y)

  -- it comes to the same in either order, but for the types
  zip_turned : (fs gs : Fields) → came (zip_fields c fs gs) ≡ came (zip_fields c gs fs)
  unfolding zip_fields
  zip_turned empty empty = refl
  zip_turned empty (field m u gs) = refl
  zip_turned (field n t fs) empty = refl
  zip_turned (field n t fs) (field m u gs) = go (eqb n m) refl (zip_turned fs gs)
    where
      left : Bool → Zip
      left b = cond b (zip_on n (c t u) (zip_fields c fs gs)) names_differ

      right : Bool → Zip
      right b = cond b (zip_on m (c u t) (zip_fields c gs fs)) names_differ

      go : (b : Bool) → eqb n m ≡ b → came (zip_fields c fs gs) ≡ came (zip_fields c gs fs)
          → came (left b) ≡ came (right (eqb m n))
      go true e h =
          zip_on_turned n m (c t u) (c u t) (zip_fields c fs gs) (zip_fields c gs fs) (fair.turn t u) (fair.turn u t) h
          ∙ sym (ap (λ (b : Bool). came (right b)) (turned_true n m e))
      go false e h = sym (ap (λ (b : Bool). came (right b)) (turned_false n m e))

  -- over equal fields it comes to the left ones
  zip_equal : (fs gs : Fields) → equal_fields fs gs ≡ true → zip_fields c fs gs ≡ joined fs
  unfolding zip_fields equal
  zip_equal empty gs e = refl
  zip_equal (field n t fs) empty e = never e
  zip_equal (field n t fs) (field m u gs) e = go (eqb n m) (equal t u) refl e (zip_equal fs gs)
    where
      go : (a b : Bool) → equal t u ≡ b → (a && b && equal_fields fs gs) ≡ true
          → (equal_fields fs gs ≡ true → zip_fields c fs gs ≡ joined fs)
          → cond a (zip_on n (c t u) (zip_fields c fs gs)) names_differ ≡ joined (field n t fs)
      go true true q e h = ap₂ (zip_on n) (fair.same t u q) (h e)
      go true false q e h = never e
      go false b q e h = never e

  -- and equal fields are as many
  equal_counts : (fs gs : Fields) → equal_fields fs gs ≡ true → count fs ≡ count gs
  unfolding equal count
  equal_counts empty empty e = refl
  equal_counts empty (field m u gs) e = never e
  equal_counts (field n t fs) empty e = never e
  equal_counts (field n t fs) (field m u gs) e = ap suc (equal_counts fs gs (both_true (eqb n m && equal t u) _ e).1)

  -- the unions of either order, as types
  struct_or : (p q : Option Fields) → option_or (option_map struct p) (option_map struct q) ≡ option_map struct (option_or p q)
  struct_or None q = refl
  struct_or (Some fs) q = refl

  -- both tries, by what the loop comes to in each
  two_zips : (fs gs : Fields) (p q : Option Fields) (x y : Bool) (z w : Zip) → came z ≡ came w
      → (x ≡ true → z ≡ joined fs) → (y ≡ true → w ≡ joined gs)
      → option_or (cond x (Some (struct fs)) (zip_end (option_map struct p) z))
      (cond y (Some (struct gs)) (zip_end (option_map struct q) w))
      ≡ option_map struct (zip_either p q z)
  two_zips fs gs p q true y z w e h g = ap (λ (z : Zip). option_map struct (zip_either p q z)) (sym (h refl))
  two_zips fs gs p q false y (joined hs) w e h g = refl
  two_zips fs gs p q false true names_differ w e h g = absurd (omega (arith, e ∙ ap came (g refl)))
  two_zips fs gs p q false true no_join w e h g = absurd (omega (arith, e ∙ ap came (g refl)))
  two_zips fs gs p q false false names_differ names_differ e h g = struct_or p q
  two_zips fs gs p q false false names_differ no_join e h g = absurd (omega (arith, e))
  two_zips fs gs p q false false names_differ (joined js) e h g = absurd (omega (arith, e))
  two_zips fs gs p q false false no_join names_differ e h g = absurd (omega (arith, e))
  two_zips fs gs p q false false no_join no_join e h g = refl
  two_zips fs gs p q false false no_join (joined js) e h g = absurd (omega (arith, e))

  -- Structs with as many fields: the unions of both orders count where names differ at a place, and there alone.
  pub same_count : (fs gs : Fields) → count fs ≡ count gs
      → supertype_tree_with c o (struct fs) (struct gs)
      ≡ option_map struct (zip_either (union_fields c fs gs) (union_fields c gs fs) (zip_fields c fs gs))
  unfolding supertype_tree_with inner_tree head_kind run_tree equal
  same_count fs gs e =
      ap₂
      (λ (x y : Option DataType).
      option_or (cond (equal_fields fs gs) (Some (struct fs)) x) (cond (equal_fields gs fs) (Some (struct gs)) y))
      (one fs gs e) (one gs fs (sym e))
      ∙ two_zips fs gs (union_fields c fs gs) (union_fields c gs fs) (equal_fields fs gs) (equal_fields gs fs)
      (zip_fields c fs gs) (zip_fields c gs fs) (zip_turned fs gs) (zip_equal fs gs) (zip_equal gs fs)
    where
      one : (fs gs : Fields) → count fs ≡ count gs
          → run_tree c (tree_plan o kind.Struct kind.Struct) (struct fs) (struct gs)
          ≡ zip_end (option_map struct (union_fields c fs gs)) (zip_fields c fs gs)
      one fs gs e =
          ap (λ (p : TreePlan). run_tree c p (struct fs) (struct gs)) (struct_struct o)
          ∙ (unfold super_type_structs in rw (eq-eqb (count fs) (count gs) e)
          (ap (λ (q : Option DataType). zip_end q (zip_fields c fs gs)) (left_longest c fs gs (omega arith))))

  -- ---- Structs with another number of fields: one union, the longer one's, in either try

  longer : (fs gs : Fields) → count gs < count fs → super_type_structs c fs gs ≡ option_map struct (union_fields c fs gs)
  unfolding super_type_structs
  longer fs gs h = rw (ne_eqb (count fs) (count gs) (λ e. omega arith)) (left_longest c fs gs (omega arith))

  shorter : (fs gs : Fields) → count fs < count gs → super_type_structs c fs gs ≡ option_map struct (union_fields c gs fs)
  unfolding super_type_structs
  shorter fs gs h = rw (ne_eqb (count fs) (count gs) (λ e. omega arith)) (right_longest c fs gs h)

  -- The left is the longer one, and the right.
  pub left_longer : (fs gs : Fields) → count gs < count fs
      → supertype_tree_with c o (struct fs) (struct gs) ≡ option_map struct (union_fields c fs gs)
  unfolding head_kind run_tree equal
  left_longer fs gs h =
      settle c o (struct fs) (struct gs) structs structs (struct_struct o) (struct_struct o)
      (λ e. absurd (let n = equal_counts fs gs e in omega arith))
      (λ e. absurd (let n = equal_counts gs fs e in omega arith))
      (λ e. shorter gs fs h ∙ sym (longer fs gs h) ∙ e)
      ∙ longer fs gs h

  pub right_longer : (fs gs : Fields) → count fs < count gs
      → supertype_tree_with c o (struct fs) (struct gs) ≡ option_map struct (union_fields c gs fs)
  unfolding head_kind run_tree equal
  right_longer fs gs h =
      settle c o (struct fs) (struct gs) structs structs (struct_struct o) (struct_struct o)
      (λ e. absurd (let n = equal_counts fs gs e in omega arith))
      (λ e. absurd (let n = equal_counts gs fs e in omega arith))
      (λ e. longer gs fs h ∙ sym (shorter fs gs h) ∙ e)
      ∙ shorter fs gs h
