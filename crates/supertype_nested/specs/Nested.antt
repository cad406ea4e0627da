-- `get_supertype_with_options` of supertype.rs for all types: what each arm of its `inner` answers, then `or_else` the
-- other way round. The arms stand in the source's order in crates/supertype_arms/specs/Supertype.antt. Assumes nothing:
-- these are definitions.
use Rattle.std.specs.Option.{option_or}
use Rattle.std.specs.Prelude.{Bool, cond, ℕ, zero, suc, ◌+◌, leb, eqb}
use Rattle.std.specs.Prelude.{Option, None, Some}
use Rattle.std.specs.Prelude.{option_map, option_and_then}
use Rattle.flat.specs.Tree.{DataType, leaf, list, array, struct, Fields, empty, field, count, size, head_kind, head_arg}
use Rattle.dtype.specs.Match.{if_leaf, if_struct, if_field}
use Rattle.dtype.specs.Equality.{equal}
use Rattle.dtype_inner.specs.Inner.{inner_dtype}
use Rattle.flat.specs.declared.Node.{Node}
use Rattle.supertype_answer.specs.Join.{node, root_node, type_of}
use Rattle.supertype_arms.specs.Supertype.{arms, choose, Call, run}
use Rattle.supertype_arms.specs.Supertype.{TreePlan, no_type, left_type, right_type, roots}
use Rattle.supertype_arms.specs.Supertype.{lists, arrays, implode_left, implode_right, first_field, structs, each_field}

-- `SuperTypeOptions`: its two flags
pub record SuperTypeOptions : Type 0 where
  pub allow_implode_list : Bool
  pub allow_primitive_to_string : Bool

abbrev pub options : Bool → Bool → SuperTypeOptions
options implode to_string = record { allow_implode_list = implode; allow_primitive_to_string = to_string }

-- a call of `get_supertype`, which may find none
abbrev pub TreeCall : Type 0
TreeCall = DataType → DataType → Option DataType

-- ---- the union of fields

-- `PlIndexMap::insert`: a name that is there keeps its place and gets the type
unfoldable pub insert : ℕ → DataType → Fields → Fields
insert name t empty = field name t empty
insert name t (field other u map) = cond (eqb other name) (field other t map) (field other u (insert name t map))

-- `PlIndexMap::from_iter`, behind what the map holds
unfoldable pub from_iter : Fields → Fields → Fields
from_iter map empty = map
from_iter map (field name t fs) = from_iter (insert name t map) fs

-- `if &field.dtype != dtype_longest { *dtype_longest = get_supertype(&field.dtype, dtype_longest)? }`
abbrev pub join_held : TreeCall → DataType → DataType → Option DataType
join_held get_supertype t held = cond (equal t held) (Some held) (get_supertype t held)

-- one turn of the loop over the shortest: `entry(&field.name).or_insert_with(..)`, where a new name's type is held as
-- it is, then the join with what was held
unfoldable pub enter : TreeCall → ℕ → DataType → Fields → Option Fields
enter get_supertype name t empty = Some (field name t empty)
enter get_supertype name t (field other u map) =
    cond (eqb other name) (option_map (λ st. field other st map) (join_held get_supertype t u))
    (option_map (field other u) (enter get_supertype name t map))

-- `for field in shortest`
unfoldable pub enter_all : TreeCall → Fields → Fields → Option Fields
enter_all get_supertype map empty = Some map
enter_all get_supertype map (field name t fs) =
    option_and_then (λ map. enter_all get_supertype map fs) (enter get_supertype name t map)

-- the fields of the longest and the shortest as one map
unfoldable pub union_fields : TreeCall → Fields → Fields → Option Fields
union_fields get_supertype longest shortest = enter_all get_supertype (from_iter empty longest) shortest

-- `union_struct_fields`: of two with as many fields the left is the longest
unfoldable pub union_struct_fields : TreeCall → Fields → Fields → Option DataType
union_struct_fields get_supertype fs gs =
    option_map struct (cond (leb (count gs) (count fs)) (union_fields get_supertype fs gs)
    (union_fields get_supertype gs fs))

-- ---- Structs field by field

-- what the loop over the fields of both comes to: names that differ, a join that is None, or all the joins
pub data Zip : Type 0 where
  names_differ no_join : Zip
  joined : Fields → Zip

-- the join of two fields of one name, then what the loop comes to behind them
abbrev pub zip_on : ℕ → Option DataType → Zip → Zip
zip_on name None rest = no_join
zip_on name (Some st) names_differ = names_differ
zip_on name (Some st) no_join = no_join
zip_on name (Some st) (joined fs) = joined (field name st fs)

-- `for (a, b) in fields_a.iter().zip(fields_b)`
unfoldable pub zip_fields : TreeCall → Fields → Fields → Zip
zip_fields get_supertype empty gs = joined empty
zip_fields get_supertype (field name t fs) empty = joined empty
zip_fields get_supertype (field name t fs) (field other u gs) =
    cond (eqb name other) (zip_on name (get_supertype t u) (zip_fields get_supertype fs gs)) names_differ

-- the loop's answer, the union where names differ
abbrev pub zip_end : Option DataType → Zip → Option DataType
zip_end union names_differ = union
zip_end union no_join = None
zip_end union (joined fs) = Some (struct fs)

-- `super_type_structs`
unfoldable pub super_type_structs : TreeCall → Fields → Fields → Option DataType
super_type_structs get_supertype fs gs =
    cond (eqb (count fs) (count gs))
    (zip_end (union_struct_fields get_supertype fs gs) (zip_fields get_supertype fs gs))
    (union_struct_fields get_supertype fs gs)

-- ---- the answers

-- `for a in fields_a`: each field's join with the one type r
unfoldable pub join_each : TreeCall → Fields → DataType → Option Fields
join_each get_supertype empty r = Some empty
join_each get_supertype (field name t fs) r =
    option_and_then (λ st. option_map (field name st) (join_each get_supertype fs r)) (get_supertype t r)

-- an Array of the width, where both have it, else a List
abbrev pub of_widths : ℕ → ℕ → DataType → DataType
of_widths w v t = cond (eqb w v) (array w t) (list t)

-- what was found of two roots, as a type
abbrev pub tree_of : Option Node → Option DataType
tree_of = option_map type_of

-- what was found, as a root: two types that are not nested have no nested one in common
abbrev pub root_found : Option DataType → Option Node
root_found found = option_and_then (if_leaf None (λ k a. Some (node k a))) found

-- a call with two roots: the dyn arms make one with the left type and an integer type
abbrev pub at_roots : TreeCall → Call
at_roots get_supertype l r = root_found (get_supertype (type_of l) (type_of r))

-- what a plan answers for two types
unfoldable pub run_tree : TreeCall → TreePlan → DataType → DataType → Option DataType
run_tree get_supertype no_type l r = None
run_tree get_supertype left_type l r = Some l
run_tree get_supertype right_type l r = Some r
run_tree get_supertype (roots p) l r = tree_of (run (at_roots get_supertype) p (root_node l) (root_node r))
run_tree get_supertype lists l r =
    option_and_then (λ t. option_and_then (λ u. option_map list (get_supertype t u)) (inner_dtype r)) (inner_dtype l)
run_tree get_supertype arrays l r =
    option_and_then (λ t. option_and_then (λ u.
    option_map (of_widths (head_arg l) (head_arg r)) (get_supertype t u)) (inner_dtype r)) (inner_dtype l)
run_tree get_supertype implode_left l r = option_and_then (λ t. option_map list (get_supertype t r)) (inner_dtype l)
run_tree get_supertype implode_right l r = option_and_then (λ u. option_map list (get_supertype u l)) (inner_dtype r)
run_tree get_supertype first_field l r = if_struct None (if_field None (λ name t fs. get_supertype t r)) l
run_tree get_supertype structs l r = if_struct None (λ fs. if_struct None (super_type_structs get_supertype fs) r) l
run_tree get_supertype each_field l r =
    if_struct None (λ fs. if_leaf None (λ k a. option_map struct (join_each get_supertype fs (leaf k a))) r) l

-- ---- the function

-- the plan of the arm that takes two types
unfoldable pub tree_plan : SuperTypeOptions → ℕ → ℕ → TreePlan
tree_plan o a b = choose (arms o.allow_implode_list o.allow_primitive_to_string) a b

-- `inner`
unfoldable pub inner_tree : TreeCall → SuperTypeOptions → DataType → DataType → Option DataType
inner_tree get_supertype o l r =
    cond (equal l r) (Some l) (run_tree get_supertype (tree_plan o (head_kind l) (head_kind r)) l r)

unfoldable pub supertype_tree_with : TreeCall → SuperTypeOptions → TreeCall
supertype_tree_with get_supertype o l r = option_or (inner_tree get_supertype o l r) (inner_tree get_supertype o r l)

-- `get_supertype`, with the flags i of inner calls and a bound n on how deep the calls go, which only serves to define
-- it by recursion: the law `recursive` (specs/Laws.antt) is the function without it
unfoldable pub get_supertype_in : ℕ → SuperTypeOptions → TreeCall
get_supertype_in zero i l r = None
get_supertype_in (suc n) i l r = supertype_tree_with (get_supertype_in n i) i l r

-- `get_supertype_with_options`, with its own flags o and those of its inner calls i
unfoldable pub supertype_tree : SuperTypeOptions → SuperTypeOptions → TreeCall
supertype_tree o i l r = supertype_tree_with (get_supertype_in (size l + size r) i) o l r
