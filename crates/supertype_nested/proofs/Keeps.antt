-- An answer's leaves and names keep what those of both types have. Assumes nothing.
use mathlib.Core.Path.{◌≡◌, refl}
use mathlib.Core.Bool.{Bool, true, false, cond}
use Rattle.std.specs.Prelude.{Option, None, Some}
use Rattle.std.specs.Prelude.{option_map, option_and_then}
use Prim.Native.Nat.{ℕ, zero, suc, ◌+◌}
use lib.Dec.{leb, eqb}
use Rattle.flat.specs.Tree.{DataType, leaf, list, array, struct, Fields, empty, field, count, size, head_kind, head_arg}
use Rattle.dtype.specs.Equality.{equal}
use Rattle.dtype_inner.specs.Inner.{inner_dtype}
use Rattle.supertype_answer.specs.Join.{root_node}
use Rattle.supertype_arms.specs.Supertype.{run, TreePlan, no_type, left_type, right_type, roots, lists, arrays, implode_left}
use Rattle.supertype_arms.specs.Supertype.{implode_right, first_field, structs, each_field}
use Rattle.supertype_arms.specs.declared.plan.Plan.{Plan}
use Rattle.supertype_nested.specs.Nested.{SuperTypeOptions, TreeCall, insert, from_iter, join_held, enter, enter_all}
use Rattle.supertype_nested.specs.Nested.{union_fields, union_struct_fields, Zip, names_differ, no_join, joined, zip_on}
use Rattle.supertype_nested.specs.Nested.{zip_fields, zip_end, super_type_structs, join_each, of_widths, tree_of}
use Rattle.supertype_nested.specs.Nested.{at_roots, run_tree, tree_plan, inner_tree, supertype_tree_with}
use Rattle.supertype_nested.specs.Nested.{get_supertype_in, supertype_tree}
use Rattle.supertype_nested.specs.Laws.{Each, Eachs}
use Rattle.supertype_nested.proofs.Found.{If, if_cond, if_map, if_bind, if_or}

module _ (P : ℕ → ℕ → Type 0) (Q : ℕ → Type 0) where
  abbrev One : DataType → Type 0
  One = Each P Q

  abbrev All : Fields → Type 0
  All = Eachs P Q

  -- of a call
  abbrev pub Keeps : TreeCall → Type 0
  Keeps call = (l r : DataType) → Each P Q l → Each P Q r → If (Each P Q) (call l r)

  -- what is left to prove of P and Q: that the arms which answer by the two roots keep them, over any call that does
  abbrev pub RootsKeep : Type 0
  RootsKeep =
      (call : TreeCall) → Keeps call → (o : SuperTypeOptions) (l r : DataType) → Each P Q l → Each P Q r → (p : Plan)
      → tree_plan o (head_kind l) (head_kind r) ≡ roots p
      → If (Each P Q) (tree_of (run (at_roots call) p (root_node l) (root_node r)))

  insert_keeps : (name : ℕ) (t : DataType) (map : Fields) → Q name → One t → All map → All (insert name t map)
  unfolding Each insert
  insert_keeps name t empty q h g = (q, h, tt)
  insert_keeps name t (field other u map) q h g = go (eqb other name) (insert_keeps name t map q h g.2)
    where
      go : (b : Bool) → All (insert name t map) → All (cond b (field other t map) (field other u (insert name t map)))
      go true e = (g.0, h, g.2)
      go false e = (g.0, g.1, e)

  from_keeps : (map fs : Fields) → All map → All fs → All (from_iter map fs)
  unfolding Each from_iter
  from_keeps map empty h g = h
  from_keeps map (field name t fs) h g =
      from_keeps (insert name t map) fs (insert_keeps name t map g.0 g.1 h) g.2

  module _ (call : TreeCall) (s : Keeps call) where
    -- ---- the union of fields
    held_keeps : (t u : DataType) → One t → One u → If One (join_held call t u)
    held_keeps t u h g = if_cond One (equal t u) (Some u) (call t u) g (s t u h g)

    enter_keeps : (name : ℕ) (t : DataType) (map : Fields) → Q name → One t → All map → If All (enter call name t map)
    unfolding Each enter
    enter_keeps name t empty q h g = (q, h, tt)
    enter_keeps name t (field other u map) q h g =
        if_cond All (eqb other name) (option_map (λ st. field other st map) (join_held call t u))
        (option_map (field other u) (enter call name t map))
        (if_map One All (λ st. field other st map) (λ v e. (g.0, e, g.2)) (join_held call t u)
        (held_keeps t u h g.1))
        (if_map All All (field other u) (λ m e. (g.0, g.1, e)) (enter call name t map)
        (enter_keeps name t map q h g.2))

    all_keeps : (map fs : Fields) → All map → All fs → If All (enter_all call map fs)
    unfolding Each enter_all
    all_keeps map empty h g = h
    all_keeps map (field name t fs) h g =
        if_bind All All (λ m. enter_all call m fs) (λ m e. all_keeps m fs e g.2) (enter call name t map)
        (enter_keeps name t map g.0 g.1 h)

    fields_keeps : (fs gs : Fields) → All fs → All gs → If All (union_fields call fs gs)
    unfolding union_fields Each
    fields_keeps fs gs h g = all_keeps (from_iter empty fs) gs (from_keeps empty fs tt h) g

    union_keeps : (fs gs : Fields) → All fs → All gs → If One (union_struct_fields call fs gs)
    unfolding union_struct_fields Each
    union_keeps fs gs h g =
        if_map All One struct (λ hs e. e)
        (cond (leb (count gs) (count fs)) (union_fields call fs gs) (union_fields call gs fs))
        (if_cond All (leb (count gs) (count fs)) (union_fields call fs gs) (union_fields call gs fs)
        (fields_keeps fs gs h g) (fields_keeps gs fs g h))

    -- ---- Structs field by field
    abbrev ZipKeeps : Zip → Type 0
    ZipKeeps names_differ = Unit {0}
    ZipKeeps no_join = Unit {0}
    ZipKeeps (joined fs) = All fs

    zip_on_lem : (name : ℕ) (p : Option DataType) (z : Zip) → Q name → If One p → ZipKeeps z → ZipKeeps (zip_on name p z)
    unfolding Each
    zip_on_lem name None z q h g = tt
    zip_on_lem name (Some t) names_differ q h g = tt
    zip_on_lem name (Some t) no_join q h g = tt
    zip_on_lem name (Some t) (joined fs) q h g = (q, h, g)

    zip_keeps : (fs gs : Fields) → All fs → All gs → ZipKeeps (zip_fields call fs gs)
    unfolding zip_fields Each
    zip_keeps empty gs h g = tt
    zip_keeps (field name t fs) empty h g = tt
    zip_keeps (field name t fs) (field other u gs) h g =
        go (eqb name other)
        (zip_on_lem name (call t u) (zip_fields call fs gs) h.0 (s t u h.1 g.1) (zip_keeps fs gs h.2 g.2))
      where
        go : (b : Bool) → ZipKeeps (zip_on name (call t u) (zip_fields call fs gs))
            → ZipKeeps (cond b (zip_on name (call t u) (zip_fields call fs gs)) names_differ)
        go true e = e
        go false e = tt

    structs_keeps : (fs gs : Fields) → All fs → All gs → If One (super_type_structs call fs gs)
    unfolding super_type_structs Each
    structs_keeps fs gs h g =
        if_cond One (eqb (count fs) (count gs)) (zip_end (union_struct_fields call fs gs) (zip_fields call fs gs))
        (union_struct_fields call fs gs) (ended (zip_fields call fs gs) (zip_keeps fs gs h g)) (union_keeps fs gs h g)
      where
        ended : (z : Zip) → ZipKeeps z → If One (zip_end (union_struct_fields call fs gs) z)
        ended names_differ e = union_keeps fs gs h g
        ended no_join e = tt
        ended (joined hs) e = e

    each_keeps : (k a : ℕ) (fs : Fields) → P k a → All fs → If All (join_each call fs (leaf k a))
    unfolding Each join_each
    each_keeps k a empty h g = tt
    each_keeps k a (field name t fs) h g =
        if_bind One All (λ st. option_map (field name st) (join_each call fs (leaf k a)))
        (λ v e. if_map All All (field name v) (λ hs d. (g.0, e, d)) (join_each call fs (leaf k a)) (each_keeps k a fs h g.2))
        (call t (leaf k a)) (s t (leaf k a) g.1 h)

    -- ---- the arms
    inner_keeps : (l : DataType) → One l → If One (inner_dtype l)
    unfolding inner_dtype Each
    inner_keeps (leaf k a) h = tt
    inner_keeps (list t) h = h
    inner_keeps (array w t) h = h
    inner_keeps (struct fs) h = tt

    -- through the inner type of l
    under : (l : DataType) → One l → (f : DataType → Option DataType) → ((t : DataType) → One t → If One (f t))
        → If One (option_and_then f (inner_dtype l))
    under l h f g = if_bind One One f g (inner_dtype l) (inner_keeps l h)

    in_list : (q : Option DataType) → If One q → If One (option_map list q)
    unfolding Each
    in_list q h = if_map One One list (λ t e. e) q h

    in_width : (w v : ℕ) (q : Option DataType) → If One q → If One (option_map (of_widths w v) q)
    unfolding Each
    in_width w v q h = if_map One One (of_widths w v) (λ t e. go t (eqb w v) e) q h
      where
        go : (t : DataType) (b : Bool) → One t → One (cond b (array w t) (list t))
        go t true e = e
        go t false e = e

    run_keeps : (l r : DataType) → One l → One r → (p : TreePlan)
        → ((q : Plan) → p ≡ roots q → If One (tree_of (run (at_roots call) q (root_node l) (root_node r))))
        → If One (run_tree call p l r)
    unfolding run_tree Each
    run_keeps l r h g no_type e = tt
    run_keeps l r h g left_type e = h
    run_keeps l r h g right_type e = g
    run_keeps l r h g (roots p) e = e p refl
    run_keeps l r h g lists e = under l h _ (λ t a. under r g _ (λ u b. in_list (call t u) (s t u a b)))
    run_keeps l r h g arrays e =
        under l h _ (λ t a. under r g _ (λ u b. in_width (head_arg l) (head_arg r) (call t u) (s t u a b)))
    run_keeps l r h g implode_left e = under l h _ (λ t a. in_list (call t r) (s t r a g))
    run_keeps l r h g implode_right e = under r g _ (λ u b. in_list (call u l) (s u l b h))
    run_keeps (leaf k a) r h g first_field e = tt
    run_keeps (list t) r h g first_field e = tt
    run_keeps (array w t) r h g first_field e = tt
    run_keeps (struct empty) r h g first_field e = tt
    run_keeps (struct (field name t fs)) r h g first_field e = s t r h.1 g
    run_keeps (leaf k a) r h g structs e = tt
    run_keeps (list t) r h g structs e = tt
    run_keeps (array w t) r h g structs e = tt
    run_keeps (struct fs) (leaf k a) h g structs e = tt
    run_keeps (struct fs) (list t) h g structs e = tt
    run_keeps (struct fs) (array w t) h g structs e = tt
    run_keeps (struct fs) (struct gs) h g structs e = structs_keeps fs gs h g
    run_keeps (leaf k a) r h g each_field e = tt
    run_keeps (list t) r h g each_field e = tt
    run_keeps (array w t) r h g each_field e = tt
    run_keeps (struct fs) (leaf k a) h g each_field e =
        if_map All One struct (λ hs d. d) (join_each call fs (leaf k a)) (each_keeps k a fs g h)
    run_keeps (struct fs) (list t) h g each_field e = tt
    run_keeps (struct fs) (array w t) h g each_field e = tt
    run_keeps (struct fs) (struct gs) h g each_field e = tt

    module _ (roots_keep : RootsKeep) (o : SuperTypeOptions) where
      one_order : (l r : DataType) → One l → One r → If One (inner_tree call o l r)
      unfolding inner_tree
      one_order l r h g =
          if_cond One (equal l r) (Some l) (run_tree call (tree_plan o (head_kind l) (head_kind r)) l r) h
          (run_keeps l r h g (tree_plan o (head_kind l) (head_kind r)) (roots_keep call s o l r h g))

      with_keeps : Keeps (supertype_tree_with call o)
      unfolding supertype_tree_with
      with_keeps l r h g =
          if_or One (inner_tree call o l r) (inner_tree call o r l) (one_order l r h g) (one_order r l g h)

  module _ (roots_keep : RootsKeep) where
    in_keeps : (n : ℕ) (i : SuperTypeOptions) → Keeps (get_supertype_in n i)
    unfolding get_supertype_in
    in_keeps zero i l r h g = tt
    in_keeps (suc n) i l r h g = with_keeps (get_supertype_in n i) (in_keeps n i) roots_keep i l r h g

    pub tree_keeps : (o i : SuperTypeOptions) → Keeps (supertype_tree o i)
    unfolding supertype_tree
    tree_keeps o i l r h g =
        with_keeps (get_supertype_in (size l + size r) i) (in_keeps (size l + size r) i) roots_keep o l r h g
