-- The bound on how deep the calls go does not matter: the definition is the source's own recursion. Assumes nothing.
use Rattle.std.specs.Option.{option_or}
use mathlib.Core.Path.{◌≡◌, refl, sym, ap, ap₂, ◌∙◌}
use mathlib.Core.Bool.{Bool, true, false, not, cond, ◌||◌}
use Rattle.std.specs.Prelude.{Option, None, Some}
use Rattle.std.specs.Prelude.{option_map, option_and_then}
use Prim.Native.Nat.{ℕ, zero, suc, ◌+◌, ◌≤◌, ◌<◌}
use native.Mathlib.Omega.{arith}
use lib.Dec.{T, leb, eqb}
use Rattle.flat.specs.Kind.{Decimal}
use Rattle.flat.specs.Tree.{DataType, leaf, list, array, struct, Fields, empty, field, count, size, sizes}
use Rattle.flat.specs.Tree.{head_kind, head_arg}
use Rattle.flat.proofs.Sizes.{size_pos}
use Rattle.flat.proofs.Truths.{impossible}
use Rattle.dtype.specs.Match.{if_leaf, if_struct, if_field}
use Rattle.dtype.specs.Predicate.{is_unknown_int}
use Rattle.dtype.specs.Equality.{equal}
use Rattle.dtype.proofs.Runs.{says, of_run}
use Rattle.dtype_inner.specs.Inner.{inner_dtype}
use Rattle.flat.specs.declared.Node.{Node}
use Rattle.supertype_answer.specs.Join.{root_node}
use Rattle.supertype_arms.specs.Supertype.{run, TreePlan, no_type, left_type, right_type, roots, lists, arrays, implode_left}
use Rattle.supertype_arms.specs.Supertype.{implode_right, first_field, structs, each_field}
use Rattle.supertype_arms.specs.declared.plan.Plan.{Plan}
use Rattle.supertype_arms.specs.declared.plan.Plan.TheVariants.{DynNumber}
use Rattle.supertype_arms.proofs.Areas.{alike}
use Rattle.supertype_arms.proofs.Recursive.{quiet, quiet_run, dyn_run, runs_same}
use Rattle.supertype_nested.specs.Nested.{SuperTypeOptions, TreeCall, from_iter, enter, enter_all, union_fields}
use Rattle.supertype_nested.specs.Nested.{union_struct_fields, zip_on, zip_fields, zip_end, super_type_structs}
use Rattle.supertype_nested.specs.Nested.{join_each, of_widths, tree_of, root_found, at_roots, run_tree, tree_plan}
use Rattle.supertype_nested.specs.Nested.{inner_tree, supertype_tree_with, get_supertype_in}
use Rattle.supertype_nested.specs.Nested.{supertype_tree}
use Rattle.supertype_nested.proofs.Found.{if_weaken, bind_same, cond_same}
use Rattle.supertype_nested.proofs.Smaller.{Below, AtMost, Smaller, from_sizes, enter_sizes, inner_size, in_smaller}
use Rattle.supertype_nested.proofs.Chosen.{or_false, on_roots, calls_none, no_call, discards, dyn_discards}

-- ---- two roots that are no dyn ints

-- their plan makes no inner call: nothing is nested in them
module _ (c d : TreeCall) (k a m b : ℕ) where
  leaves_run : (p : TreePlan) → T (on_roots calls_none p) → run_tree c p (leaf k a) (leaf m b) ≡ run_tree d p (leaf k a) (leaf m b)
  unfolding run_tree inner_dtype
  leaves_run no_type t = refl
  leaves_run left_type t = refl
  leaves_run right_type t = refl
  leaves_run (roots p) t =
      ap tree_of (quiet_run (at_roots c) (at_roots d) (root_node (leaf k a)) (root_node (leaf m b)) (Some p) t)
  leaves_run lists t = refl
  leaves_run arrays t = refl
  leaves_run implode_left t = refl
  leaves_run implode_right t = refl
  leaves_run first_field t = refl
  leaves_run structs t = refl
  leaves_run each_field t = refl

  leaves_inner : (o : SuperTypeOptions) → is_unknown_int m ≡ false
      → inner_tree c o (leaf k a) (leaf m b) ≡ inner_tree d o (leaf k a) (leaf m b)
  unfolding inner_tree head_kind
  leaves_inner o e = ap (cond (equal (leaf k a) (leaf m b)) (Some (leaf k a))) (leaves_run (tree_plan o k m) (no_call o k m e))

leaves_same : (c d : TreeCall) (o : SuperTypeOptions) (k a m b : ℕ) → is_unknown_int k ≡ false → is_unknown_int m ≡ false
    → supertype_tree_with c o (leaf k a) (leaf m b) ≡ supertype_tree_with d o (leaf k a) (leaf m b)
unfolding supertype_tree_with
leaves_same c d o k a m b e f = ap₂ option_or (leaves_inner c d k a m b o f) (leaves_inner c d m b k a o e)

-- ---- two calls that agree

-- on types of fewer than n nodes together, and on two leaves that are no dyn ints
pub record Agree (n : ℕ) (c d : TreeCall) : Type 0 where
  pub fewer : (l r : DataType) → size l + size r < n → c l r ≡ d l r
  pub leaves : (k a m b : ℕ) → is_unknown_int k ≡ false → is_unknown_int m ≡ false
      → c (leaf k a) (leaf m b) ≡ d (leaf k a) (leaf m b)

-- Null, Boolean, integers and floats are no dyn ints
below_known : (k : ℕ) → k < Decimal → is_unknown_int k ≡ false
below_known k h = sym (of_run is_unknown_int false 0 Decimal (unfold says in tt) k (omega arith))

module _ (c d : TreeCall) (s : Smaller c) (n : ℕ) (g : Agree n c d) where
  enter_same : (name : ℕ) (t : DataType) (map : Fields) → size t + sizes map < n → enter c name t map ≡ enter d name t map
  unfolding enter size
  enter_same name t empty h = refl
  enter_same name t (field other u map) h =
      cond_same (eqb other name)
      (ap (option_map (λ st. field other st map)) (ap (cond (equal t u) (Some u)) (g.fewer t u (omega arith))))
      (ap (option_map (field other u)) (enter_same name t map (omega arith)))

  all_same : (map fs : Fields) → sizes map + sizes fs < n → enter_all c map fs ≡ enter_all d map fs
  unfolding enter_all size
  all_same map empty h = refl
  all_same map (field name t fs) h =
      bind_same (λ m. enter_all c m fs) (λ m. enter_all d m fs) (enter c name t map)
      (if_weaken (AtMost (suc (size t + sizes map))) (λ m. enter_all c m fs ≡ enter_all d m fs)
      (λ m e. all_same m fs (omega arith)) (enter c name t map) (enter_sizes c s name t map))
      ∙ ap (λ q. option_and_then (λ m. enter_all d m fs) q) (enter_same name t map (omega arith))

  fields_same : (fs gs : Fields) → sizes fs + sizes gs < n → union_fields c fs gs ≡ union_fields d fs gs
  unfolding union_fields size
  fields_same fs gs h = all_same (from_iter empty fs) gs (let e = from_sizes empty fs in omega arith)

  union_same : (fs gs : Fields) → sizes fs + sizes gs < n → union_struct_fields c fs gs ≡ union_struct_fields d fs gs
  unfolding union_struct_fields
  union_same fs gs h =
      ap (option_map struct)
      (cond_same (leb (count gs) (count fs)) (fields_same fs gs h) (fields_same gs fs (omega arith)))

  zip_same : (fs gs : Fields) → sizes fs + sizes gs < n → zip_fields c fs gs ≡ zip_fields d fs gs
  unfolding zip_fields size
  zip_same empty gs h = refl
  zip_same (field name t fs) empty h = refl
  zip_same (field name t fs) (field other u gs) h =
      cond_same (eqb name other) (ap₂ (zip_on name) (g.fewer t u (omega arith)) (zip_same fs gs (omega arith))) refl

  structs_same : (fs gs : Fields) → sizes fs + sizes gs < n → super_type_structs c fs gs ≡ super_type_structs d fs gs
  unfolding super_type_structs
  structs_same fs gs h =
      cond_same (eqb (count fs) (count gs)) (ap₂ zip_end (union_same fs gs h) (zip_same fs gs h)) (union_same fs gs h)

  each_same : (k a : ℕ) (fs : Fields) → suc (sizes fs) ≤ n → join_each c fs (leaf k a) ≡ join_each d fs (leaf k a)
  unfolding join_each size
  each_same k a empty h = refl
  each_same k a (field name t fs) h =
      ap₂ (λ (p : Option DataType) (q : Option Fields). option_and_then (λ st. option_map (field name st) q) p)
      (g.fewer t (leaf k a) (omega arith)) (each_same k a fs (omega arith))

  -- through the inner type of l
  under_same : (l : DataType) (f f' : DataType → Option DataType)
      → ((t : DataType) → size t < size l → f t ≡ f' t) → option_and_then f (inner_dtype l) ≡ option_and_then f' (inner_dtype l)
  under_same l f f' h =
      bind_same f f' (inner_dtype l)
      (if_weaken (Below (size l)) (λ t. f t ≡ f' t) h (inner_dtype l) (inner_size l))

  first_same : (l r : DataType) → size l + size r ≤ n
      → if_struct None (if_field None (λ name t fs. c t r)) l ≡ if_struct None (if_field None (λ name t fs. d t r)) l
  unfolding size
  first_same (leaf k a) r h = refl
  first_same (list t) r h = refl
  first_same (array w t) r h = refl
  first_same (struct empty) r h = refl
  first_same (struct (field name t fs)) r h = g.fewer t r (omega arith)

  both_same : (l r : DataType) → size l + size r ≤ n
      → if_struct None (λ fs. if_struct None (super_type_structs c fs) r) l
      ≡ if_struct None (λ fs. if_struct None (super_type_structs d fs) r) l
  unfolding size
  both_same (leaf k a) r h = refl
  both_same (list t) r h = refl
  both_same (array w t) r h = refl
  both_same (struct fs) (leaf k a) h = refl
  both_same (struct fs) (list t) h = refl
  both_same (struct fs) (array w t) h = refl
  both_same (struct fs) (struct gs) h = structs_same fs gs (omega arith)

  with_leaf_same : (l r : DataType) → size l + size r ≤ n
      → if_struct None (λ fs. if_leaf None (λ k a. option_map struct (join_each c fs (leaf k a))) r) l
      ≡ if_struct None (λ fs. if_leaf None (λ k a. option_map struct (join_each d fs (leaf k a))) r) l
  unfolding size
  with_leaf_same (leaf k a) r h = refl
  with_leaf_same (list t) r h = refl
  with_leaf_same (array w t) r h = refl
  with_leaf_same (struct fs) (leaf k a) h = ap (option_map struct) (each_same k a fs (omega arith))
  with_leaf_same (struct fs) (list t) h = refl
  with_leaf_same (struct fs) (array w t) h = refl
  with_leaf_same (struct fs) (struct gs) h = refl

  -- the inner call of a dyn arm meets two leaves that are no dyn ints, or is discarded
  roots_same : (l r : Node) (p : Plan) → T (discards l.kind p)
      → run (at_roots c) p l r ≡ run (at_roots d) p l r
  roots_same l r p t = go (is_unknown_int l.kind) refl t
    where
      go : (b : Bool) → is_unknown_int l.kind ≡ b → T ((quiet (Some p) || alike (Some p) (Some DynNumber)) || not b)
          → run (at_roots c) p l r ≡ run (at_roots d) p l r
      go true e u =
          dyn_run (at_roots c) (at_roots d) l r e (Some p)
          (or_false (quiet (Some p) || alike (Some p) (Some DynNumber)) u)
      go false e u =
          runs_same (at_roots c) (at_roots d) l r
          (λ k h. ap root_found (g.leaves l.kind l.arg k 0 e (below_known k h))) (Some p)

  run_same : (l r : DataType) → size l + size r ≤ n → (p : TreePlan) → T (on_roots (discards (head_kind l)) p)
      → run_tree c p l r ≡ run_tree d p l r
  unfolding run_tree
  run_same l r h no_type t = refl
  run_same l r h left_type t = refl
  run_same l r h right_type t = refl
  run_same l r h (roots p) t = ap tree_of (roots_same (root_node l) (root_node r) p t)
  run_same l r h lists t =
      under_same l _ _ (λ v a. under_same r _ _ (λ u b. ap (option_map list) (g.fewer v u (omega arith))))
  run_same l r h arrays t =
      under_same l _ _
      (λ v a. under_same r _ _ (λ u b. ap (option_map (of_widths (head_arg l) (head_arg r))) (g.fewer v u (omega arith))))
  run_same l r h implode_left t = under_same l _ _ (λ v a. ap (option_map list) (g.fewer v r (omega arith)))
  run_same l r h implode_right t = under_same r _ _ (λ u a. ap (option_map list) (g.fewer u l (omega arith)))
  run_same l r h first_field t = first_same l r h
  run_same l r h structs t = both_same l r h
  run_same l r h each_field t = with_leaf_same l r h

  inner_same : (o : SuperTypeOptions) (l r : DataType) → size l + size r ≤ n → inner_tree c o l r ≡ inner_tree d o l r
  unfolding inner_tree
  inner_same o l r h =
      ap (cond (equal l r) (Some l))
      (run_same l r h (tree_plan o (head_kind l) (head_kind r)) (dyn_discards o (head_kind l) (head_kind r)))

  with_same : (o : SuperTypeOptions) (l r : DataType) → size l + size r ≤ n
      → supertype_tree_with c o l r ≡ supertype_tree_with d o l r
  unfolding supertype_tree_with
  with_same o l r h = ap₂ option_or (inner_same o l r h) (inner_same o r l (omega arith))

-- ---- the bound

-- two calls with bounds that are at least 1 agree on two leaves that are no dyn ints
bounded : (n m : ℕ) (i : SuperTypeOptions) (k a u b : ℕ) → 1 ≤ n → 1 ≤ m → is_unknown_int k ≡ false
    → is_unknown_int u ≡ false
    → get_supertype_in n i (leaf k a) (leaf u b) ≡ get_supertype_in m i (leaf k a) (leaf u b)
unfolding get_supertype_in
bounded zero m i k a u b p q e f = absurd (omega arith)
bounded (suc n) zero i k a u b p q e f = absurd (omega arith)
bounded (suc n) (suc m) i k a u b p q e f = leaves_same (get_supertype_in n i) (get_supertype_in m i) i k a u b e f

-- a bound does not matter where it is large enough
in_same : (n m : ℕ) (i : SuperTypeOptions) (l r : DataType) → size l + size r ≤ n → size l + size r ≤ m
    → get_supertype_in n i l r ≡ get_supertype_in m i l r
unfolding get_supertype_in
in_same zero m i l r h g = absurd (let p = size_pos l in omega arith)
in_same (suc n) zero i l r h g = absurd (let p = size_pos l in omega arith)
in_same (suc n) (suc m) i l r h g =
    let p = size_pos l in
    let q = size_pos r in
    with_same (get_supertype_in n i) (get_supertype_in m i) (in_smaller n i) (size l + size r)
    (record {
      fewer = λ x y e. in_same n m i x y (omega arith) (omega arith);
      leaves = λ k a u b e f. bounded n m i k a u b (omega arith) (omega arith) e f;
    })
    i l r (omega arith)

pub recursive : (o i : SuperTypeOptions) (l r : DataType)
    → supertype_tree o i l r ≡ supertype_tree_with (supertype_tree i i) o l r
unfolding supertype_tree get_supertype_in
recursive o i l r =
    let p = size_pos l in
    let q = size_pos r in
    with_same (get_supertype_in (size l + size r) i) (supertype_tree i i) (in_smaller (size l + size r) i) (size l + size r)
    (record {
      fewer = λ x y e. in_same (size l + size r) (suc (size x + size y)) i x y (omega arith) (omega arith);
      leaves =
          λ k a u b e f. bounded (size l + size r) (suc (size (leaf k a) + size (leaf u b))) i k a u b
          (omega arith) (omega arith) e f;
    })
    o l r (omega arith)

-- ---- None does not depend on the order
pub none_symmetric : (o i : SuperTypeOptions) (l r : DataType) → supertype_tree o i l r ≡ None
    → supertype_tree o i r l ≡ None
none_symmetric o i l r e = recursive o i r l ∙ turned (supertype_tree i i) (sym (recursive o i l r) ∙ e)
  where
    both : (p q : Option DataType) → option_or p q ≡ None → option_or q p ≡ None
    both None None h = refl
    both None (Some t) h = h
    both (Some t) q h = impossible cc

    turned : (c : TreeCall) → supertype_tree_with c o l r ≡ None → supertype_tree_with c o r l ≡ None
    turned c h = unfold supertype_tree_with in both (inner_tree c o l r) (inner_tree c o r l) h
