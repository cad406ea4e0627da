-- The nested joins that request Three works out hold: by computation, in every setting of the flags. Assumes nothing.
use mathlib.Core.Path.{refl}
use mathlib.Core.Bool.{Bool, true, false}
use mathlib.Core.List.{flatten}
use Rattle.flat.specs.Tree.{count, size, head_kind, head_arg}
use Rattle.dtype.specs.Match.{among}
use Rattle.dtype.specs.Predicate.{is_float, is_unknown_int, is_signed_integer, is_unsigned_integer, is_integer}
use Rattle.dtype.specs.Predicate.{is_primitive_numeric, is_primitive, is_string, is_unknown}
use Rattle.dtype.specs.Equality.{equal_node, equal}
use Rattle.dtype.specs.Physical.{physical_leaf, physical_kind}
use Rattle.dtype_inner.specs.Inner.{inner_dtype}
use Rattle.supertype_numbers.specs.DynInt.{value_of, materialize_dyn_int_pos, materialize_smallest_dyn_int}
use Rattle.supertype_arms.specs.Supertype.{unknown_arms, arms, smallest_fitting, dyn_number, run}
use Rattle.supertype_nested.specs.Nested.{options, insert, from_iter, enter, enter_all, union_fields}
use Rattle.supertype_nested.specs.Nested.{zip_fields, super_type_structs, join_each, run_tree, tree_plan, inner_tree}
use Rattle.supertype_nested.specs.Nested.{union_struct_fields, supertype_tree_with, get_supertype_in, supertype_tree}
use Rattle.cases.specs.Question.{Limits}
use Rattle.cases.specs.Cases.{nested_joins, Hold}

pub nested_hold : (l : Limits) (i s j t : Bool) → Hold l (nested_joins (options i s) (options j t))
unfolding Hold flatten count size head_kind head_arg among is_float is_unknown_int is_signed_integer is_unsigned_integer
    is_integer is_primitive_numeric is_primitive is_string is_unknown equal_node equal physical_leaf physical_kind
    inner_dtype value_of materialize_dyn_int_pos materialize_smallest_dyn_int unknown_arms arms smallest_fitting
    dyn_number run insert from_iter enter enter_all union_fields union_struct_fields zip_fields super_type_structs
    join_each run_tree tree_plan inner_tree supertype_tree_with get_supertype_in supertype_tree
nested_hold l true true true true = refl
nested_hold l true true true false = refl
nested_hold l true true false true = refl
nested_hold l true true false false = refl
nested_hold l true false true true = refl
nested_hold l true false true false = refl
nested_hold l true false false true = refl
nested_hold l true false false false = refl
nested_hold l false true true true = refl
nested_hold l false true true false = refl
nested_hold l false true false true = refl
nested_hold l false true false false = refl
nested_hold l false false true true = refl
nested_hold l false false true false = refl
nested_hold l false false false true = refl
nested_hold l false false false false = refl
