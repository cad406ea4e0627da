-- The definition gives every recorded answer: by computation. Assumes nothing.
use lib.Dec.{T}
use Rattle.flat.specs.Tree.{count, head_kind, head_arg, size, kinds_of, args_of}
use Rattle.dtype.specs.Match.{among}
use Rattle.dtype.specs.Predicate.{is_float, is_unknown_int, is_signed_integer, is_unsigned_integer, is_integer}
use Rattle.dtype.specs.Predicate.{is_primitive_numeric, is_primitive, is_string, is_unknown}
use Rattle.dtype.specs.Equality.{equal_node, equal}
use Rattle.dtype.specs.Physical.{physical_leaf, physical_kind}
use Rattle.dtype.specs.TimeUnit.{unit_of}
use Rattle.dtype.specs.TimeUnits.{get_time_units}
use Rattle.dtype_inner.specs.Inner.{inner_dtype}
use Rattle.supertype_numbers.specs.DynInt.{value_of, materialize_dyn_int, materialize_dyn_int_pos}
use Rattle.supertype_numbers.specs.DynInt.{materialize_smallest_dyn_int}
use Rattle.supertype_numbers.specs.Decimal.{fits_dec128}
use Rattle.supertype_arms.specs.Supertype.{unknown_arms, arms, smallest_fitting, dyn_number, fits_orig_prec_scale}
use Rattle.supertype_arms.specs.Supertype.{beside_integer, run}
use Rattle.supertype_nested.specs.Nested.{insert, from_iter, enter, enter_all, union_fields, union_struct_fields}
use Rattle.supertype_nested.specs.Nested.{zip_fields, super_type_structs, join_each, run_tree, tree_plan, inner_tree}
use Rattle.supertype_nested.specs.Nested.{supertype_tree_with, get_supertype_in, supertype_tree}
use Rattle.recorded.specs.Recorded.{same_nodes, agrees, all_lists_agree}
use Rattle.recorded.specs.Rows.{rows, rows0, rows1, rows2, rows3, rows4, rows5, rows6, rows7, rows8, rows9, rows10}
use Rattle.recorded.specs.Rows.{rows11, rows12, rows13, rows14, rows15, rows16, rows17, rows18, rows19, rows20}

pub agree : T (all_lists_agree rows)
unfolding rows0 rows1 rows2 rows3 rows4 rows5 rows6 rows7 rows8 rows9 rows10 rows11 rows12 rows13 rows14 rows15 rows16
    rows17 rows18 rows19 rows20 all_lists_agree agrees same_nodes count head_kind head_arg size kinds_of args_of among is_float is_unknown_int is_signed_integer is_unsigned_integer is_integer is_primitive_numeric
    is_primitive is_string is_unknown equal_node equal physical_leaf physical_kind unit_of get_time_units inner_dtype
    value_of materialize_dyn_int materialize_dyn_int_pos materialize_smallest_dyn_int fits_dec128 unknown_arms arms
    smallest_fitting dyn_number fits_orig_prec_scale beside_integer run insert from_iter enter enter_all union_fields
    union_struct_fields zip_fields super_type_structs join_each run_tree tree_plan inner_tree supertype_tree_with
    get_supertype_in supertype_tree
agree = tt
