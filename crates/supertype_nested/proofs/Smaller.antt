-- An answer has fewer nodes than both types together. Assumes nothing.
use mathlib.Core.Bool.{Bool, true, false, cond}
use Rattle.std.specs.Prelude.{Option, None, Some}
use Rattle.std.specs.Prelude.{option_map, option_and_then}
use Prim.Native.Nat.{ℕ, zero, suc, ◌+◌, ◌≤◌, ◌<◌}
use native.Mathlib.Omega.{arith}
use lib.Dec.{leb, eqb}
use Rattle.flat.specs.Tree.{DataType, leaf, list, array, struct, Fields, empty, field, count, size, sizes}
use Rattle.flat.specs.Tree.{head_kind, head_arg}
use Rattle.flat.proofs.Sizes.{size_pos}
use Rattle.dtype.specs.Match.{if_leaf, if_struct, if_field}
use Rattle.dtype.specs.Equality.{equal}
use Rattle.dtype_inner.specs.Inner.{inner_dtype}
use Rattle.flat.specs.declared.Node.{Node}
use Rattle.supertype_answer.specs.Join.{root_node}
use Rattle.supertype_arms.specs.Supertype.{run, TreePlan, no_type, left_type, right_type, roots, lists, arrays, implode_left}
use Rattle.supertype_arms.specs.Supertype.{implode_right, first_field, structs, each_field}
use Rattle.supertype_nested.specs.Nested.{SuperTypeOptions, TreeCall, insert, from_iter, join_held, enter, enter_all}
use Rattle.supertype_nested.specs.Nested.{union_fields, union_struct_fields, Zip, names_differ, no_join, joined, zip_on}
use Rattle.supertype_nested.specs.Nested.{zip_fields, zip_end, super_type_structs, join_each, of_widths, tree_of}
use Rattle.supertype_nested.specs.Nested.{at_roots, run_tree, tree_plan, inner_tree, supertype_tree_with}
use Rattle.supertype_nested.specs.Nested.{get_supertype_in, supertype_tree}
use Rattle.supertype_nested.proofs.Found.{If, if_cond, if_weaken, if_map, if_bind, if_or}

-- fewer than n nodes, and fields of at most n
abbrev pub Below : ℕ → DataType → Type 0
Below n t = size t < n

abbrev pub AtMost : ℕ → Fields → Type 0
AtMost n fs = sizes fs ≤ n

-- of a call: fewer nodes than both types together
abbrev pub Smaller : TreeCall → Type 0
Smaller call = (l r : DataType) → If (Below (size l + size r)) (call l r)

insert_sizes : (name : ℕ) (t : DataType) (map : Fields) → AtMost (suc (size t + sizes map)) (insert name t map)
unfolding size insert
insert_sizes name t empty = omega arith
insert_sizes name t (field other u map) = go (eqb other name) (insert_sizes name t map)
  where
    go : (b : Bool) → AtMost (suc (size t + sizes map)) (insert name t map)
        → AtMost (suc (size t + suc (size u + sizes map))) (cond b (field other t map) (field other u (insert name t map)))
    go true h = omega arith
    go false h = omega arith

pub from_sizes : (map fs : Fields) → AtMost (sizes map + sizes fs) (from_iter map fs)
unfolding size from_iter
from_sizes map empty = omega arith
from_sizes map (field name t fs) =
    let h = from_sizes (insert name t map) fs in let g = insert_sizes name t map in omega arith

-- the inner type is smaller
pub inner_size : (l : DataType) → If (Below (size l)) (inner_dtype l)
unfolding inner_dtype size
inner_size (leaf k a) = tt
inner_size (list t) = omega arith
inner_size (array w t) = omega arith
inner_size (struct fs) = tt

module _ (call : TreeCall) (s : Smaller call) where
  -- ---- the union of fields
  pub held_sizes : (t u : DataType) → If (Below (size t + size u)) (join_held call t u)
  held_sizes t u =
      if_cond (Below (size t + size u)) (equal t u) (Some u) (call t u) (let p = size_pos t in omega arith) (s t u)

  pub enter_sizes :
      (name : ℕ) (t : DataType) (map : Fields) → If (AtMost (suc (size t + sizes map))) (enter call name t map)
  unfolding size enter
  enter_sizes name t empty = omega arith
  enter_sizes name t (field other u map) =
      if_cond whole (eqb other name) (option_map (λ st. field other st map) (join_held call t u))
      (option_map (field other u) (enter call name t map))
      (if_map (Below (size t + size u)) whole (λ st. field other st map) (λ v h. omega arith) (join_held call t u)
      (held_sizes t u))
      (if_map (AtMost (suc (size t + sizes map))) whole (field other u) (λ fs h. omega arith) (enter call name t map)
      (enter_sizes name t map))
    where
      whole : Fields → Type 0
      whole = AtMost (suc (size t + suc (size u + sizes map)))

  all_sizes : (map fs : Fields) → If (AtMost (sizes map + sizes fs)) (enter_all call map fs)
  unfolding size enter_all
  all_sizes map empty = omega arith
  all_sizes map (field name t fs) =
      if_bind (AtMost (suc (size t + sizes map))) (AtMost (sizes map + suc (size t + sizes fs)))
      (λ m. enter_all call m fs)
      (λ m h.
      if_weaken (AtMost (sizes m + sizes fs)) (AtMost (sizes map + suc (size t + sizes fs))) (λ gs g. omega arith)
      (enter_all call m fs) (all_sizes m fs))
      (enter call name t map) (enter_sizes name t map)

  fields_sizes : (fs gs : Fields) → If (AtMost (sizes fs + sizes gs)) (union_fields call fs gs)
  unfolding union_fields size
  fields_sizes fs gs =
      if_weaken (AtMost (sizes (from_iter empty fs) + sizes gs)) (AtMost (sizes fs + sizes gs))
      (λ hs h. let g = from_sizes empty fs in omega arith) (enter_all call (from_iter empty fs) gs)
      (all_sizes (from_iter empty fs) gs)

  union_sizes : (fs gs : Fields) → If (Below (suc (suc (sizes fs + sizes gs)))) (union_struct_fields call fs gs)
  unfolding union_struct_fields size
  union_sizes fs gs =
      if_map (AtMost (sizes fs + sizes gs)) (Below (suc (suc (sizes fs + sizes gs)))) struct (λ hs h. omega arith)
      (cond (leb (count gs) (count fs)) (union_fields call fs gs) (union_fields call gs fs))
      (if_cond (AtMost (sizes fs + sizes gs)) (leb (count gs) (count fs)) (union_fields call fs gs)
      (union_fields call gs fs) (fields_sizes fs gs)
      (if_weaken (AtMost (sizes gs + sizes fs)) (AtMost (sizes fs + sizes gs)) (λ hs h. omega arith)
      (union_fields call gs fs) (fields_sizes gs fs)))

  -- ---- Structs field by field
  abbrev ZipAtMost : ℕ → Zip → Type 0
  ZipAtMost n names_differ = Unit {0}
  ZipAtMost n no_join = Unit {0}
  ZipAtMost n (joined fs) = AtMost n fs

  zip_on_lem : (n m name : ℕ) (q : Option DataType) (z : Zip) → If (Below n) q → ZipAtMost m z
      → ZipAtMost (n + m) (zip_on name q z)
  unfolding size
  zip_on_lem n m name None z h g = tt
  zip_on_lem n m name (Some t) names_differ h g = tt
  zip_on_lem n m name (Some t) no_join h g = tt
  zip_on_lem n m name (Some t) (joined fs) h g = omega arith

  zip_cond : (n m : ℕ) (b : Bool) (z : Zip) → n ≤ m → ZipAtMost n z → ZipAtMost m (cond b z names_differ)
  zip_cond n m true names_differ h g = tt
  zip_cond n m true no_join h g = tt
  zip_cond n m true (joined fs) h g = omega arith
  zip_cond n m false z h g = tt

  zip_sizes : (fs gs : Fields) → ZipAtMost (sizes fs + sizes gs) (zip_fields call fs gs)
  unfolding size zip_fields
  zip_sizes empty gs = omega arith
  zip_sizes (field name t fs) empty = omega arith
  zip_sizes (field name t fs) (field other u gs) =
      zip_cond ((size t + size u) + (sizes fs + sizes gs)) (suc (size t + sizes fs) + suc (size u + sizes gs))
      (eqb name other) (zip_on name (call t u) (zip_fields call fs gs)) (omega arith)
      (zip_on_lem (size t + size u) (sizes fs + sizes gs) name (call t u) (zip_fields call fs gs) (s t u) (zip_sizes fs gs))

  structs_sizes : (fs gs : Fields) → If (Below (suc (suc (sizes fs + sizes gs)))) (super_type_structs call fs gs)
  unfolding super_type_structs size
  structs_sizes fs gs =
      if_cond (Below (suc (suc (sizes fs + sizes gs)))) (eqb (count fs) (count gs))
      (zip_end (union_struct_fields call fs gs) (zip_fields call fs gs)) (union_struct_fields call fs gs)
      (ended (zip_fields call fs gs) (zip_sizes fs gs)) (union_sizes fs gs)
    where
      ended : (z : Zip) → ZipAtMost (sizes fs + sizes gs) z
          → If (Below (suc (suc (sizes fs + sizes gs)))) (zip_end (union_struct_fields call fs gs) z)
      ended names_differ h = union_sizes fs gs
      ended no_join h = tt
      ended (joined hs) h = omega arith

  each_sizes : (k a : ℕ) (fs : Fields) → If (AtMost (sizes fs)) (join_each call fs (leaf k a))
  unfolding size join_each
  each_sizes k a empty = omega arith
  each_sizes k a (field name t fs) =
      if_bind (Below (size t + 1)) (AtMost (suc (size t + sizes fs)))
      (λ st. option_map (field name st) (join_each call fs (leaf k a)))
      (λ v h.
      if_map (AtMost (sizes fs)) (AtMost (suc (size t + sizes fs))) (field name v) (λ gs g. omega arith)
      (join_each call fs (leaf k a)) (each_sizes k a fs))
      (call t (leaf k a)) (s t (leaf k a))

  -- ---- the arms
  roots_sizes : (n : ℕ) (q : Option Node) → 2 ≤ n → If (Below n) (tree_of q)
  unfolding size
  roots_sizes n (Some x) h = omega arith
  roots_sizes n None h = tt

  -- through the inner type of l
  under : (n : ℕ) (l : DataType) (f : DataType → Option DataType)
      → ((t : DataType) → Below (size l) t → If (Below n) (f t)) → If (Below n) (option_and_then f (inner_dtype l))
  under n l f h = if_bind (Below (size l)) (Below n) f h (inner_dtype l) (inner_size l)

  in_list : (n m : ℕ) → n < m → (q : Option DataType) → If (Below n) q → If (Below m) (option_map list q)
  unfolding size
  in_list n m h q b = if_map (Below n) (Below m) list (λ t e. omega arith) q b

  in_width : (w v n m : ℕ) → n < m → (q : Option DataType) → If (Below n) q → If (Below m) (option_map (of_widths w v) q)
  unfolding size
  in_width w v n m h q b = if_map (Below n) (Below m) (of_widths w v) (λ t e. go t (eqb w v) e) q b
    where
      go : (t : DataType) (b : Bool) → Below n t → Below m (cond b (array w t) (list t))
      go t true e = omega arith
      go t false e = omega arith

  first_sizes : (l r : DataType) → If (Below (size l + size r)) (if_struct None (if_field None (λ name t fs. call t r)) l)
  unfolding size
  first_sizes (leaf k a) r = tt
  first_sizes (list t) r = tt
  first_sizes (array w t) r = tt
  first_sizes (struct empty) r = tt
  first_sizes (struct (field name t fs)) r =
      if_weaken (Below (size t + size r)) (Below (suc (suc (size t + sizes fs)) + size r)) (λ v h. omega arith)
      (call t r) (s t r)

  both_sizes : (l r : DataType)
      → If (Below (size l + size r)) (if_struct None (λ fs. if_struct None (super_type_structs call fs) r) l)
  unfolding size
  both_sizes (leaf k a) r = tt
  both_sizes (list t) r = tt
  both_sizes (array w t) r = tt
  both_sizes (struct fs) (leaf k a) = tt
  both_sizes (struct fs) (list t) = tt
  both_sizes (struct fs) (array w t) = tt
  both_sizes (struct fs) (struct gs) =
      if_weaken (Below (suc (suc (sizes fs + sizes gs)))) (Below (suc (sizes fs) + suc (sizes gs)))
      (λ v h. omega arith) (super_type_structs call fs gs) (structs_sizes fs gs)

  with_leaf_sizes : (l r : DataType)
      → If (Below (size l + size r))
      (if_struct None (λ fs. if_leaf None (λ k a. option_map struct (join_each call fs (leaf k a))) r) l)
  unfolding size
  with_leaf_sizes (leaf k a) r = tt
  with_leaf_sizes (list t) r = tt
  with_leaf_sizes (array w t) r = tt
  with_leaf_sizes (struct fs) (leaf k a) =
      if_map (AtMost (sizes fs)) (Below (suc (sizes fs) + 1)) struct (λ gs h. omega arith) (join_each call fs (leaf k a))
      (each_sizes k a fs)
  with_leaf_sizes (struct fs) (list t) = tt
  with_leaf_sizes (struct fs) (array w t) = tt
  with_leaf_sizes (struct fs) (struct gs) = tt

  run_sizes : (l r : DataType) (p : TreePlan) → If (Below (size l + size r)) (run_tree call p l r)
  unfolding run_tree
  run_sizes l r no_type = tt
  run_sizes l r left_type = let h = size_pos r in omega arith
  run_sizes l r right_type = let h = size_pos l in omega arith
  run_sizes l r (roots p) =
      roots_sizes (size l + size r) (run (at_roots call) p (root_node l) (root_node r))
      (let h = size_pos l in let g = size_pos r in omega arith)
  run_sizes l r lists =
      under (size l + size r) l _
      (λ t h. under (size l + size r) r _
      (λ u g. in_list (size t + size u) (size l + size r) (omega arith) (call t u) (s t u)))
  run_sizes l r arrays =
      under (size l + size r) l _
      (λ t h. under (size l + size r) r _
      (λ u g. in_width (head_arg l) (head_arg r) (size t + size u) (size l + size r) (omega arith) (call t u) (s t u)))
  run_sizes l r implode_left =
      under (size l + size r) l _
      (λ t h. in_list (size t + size r) (size l + size r) (omega arith) (call t r) (s t r))
  run_sizes l r implode_right =
      under (size l + size r) r _
      (λ u h. in_list (size u + size l) (size l + size r) (omega arith) (call u l) (s u l))
  run_sizes l r first_field = first_sizes l r
  run_sizes l r structs = both_sizes l r
  run_sizes l r each_field = with_leaf_sizes l r

  inner_sizes : (o : SuperTypeOptions) (l r : DataType) → If (Below (size l + size r)) (inner_tree call o l r)
  unfolding inner_tree
  inner_sizes o l r =
      if_cond (Below (size l + size r)) (equal l r) (Some l) (run_tree call (tree_plan o (head_kind l) (head_kind r)) l r)
      (let h = size_pos r in omega arith) (run_sizes l r (tree_plan o (head_kind l) (head_kind r)))

  with_sizes : (o : SuperTypeOptions) → Smaller (supertype_tree_with call o)
  unfolding supertype_tree_with
  with_sizes o l r =
      if_or (Below (size l + size r)) (inner_tree call o l r) (inner_tree call o r l) (inner_sizes o l r)
      (if_weaken (Below (size r + size l)) (Below (size l + size r)) (λ t h. omega arith) (inner_tree call o r l)
      (inner_sizes o r l))

pub in_smaller : (n : ℕ) (i : SuperTypeOptions) → Smaller (get_supertype_in n i)
unfolding get_supertype_in
in_smaller zero i l r = tt
in_smaller (suc n) i l r = with_sizes (get_supertype_in n i) (in_smaller n i) i l r

pub tree_smaller : (o i : SuperTypeOptions) → Smaller (supertype_tree o i)
unfolding supertype_tree
tree_smaller o i l r = with_sizes (get_supertype_in (size l + size r) i) (in_smaller (size l + size r) i) o l r
