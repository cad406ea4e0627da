-- The worked cases hold at the code's own limits: by computation, for both flags and for an empty Struct and any other.
-- Assumes nothing.
use mathlib.Core.Path.{refl}
use mathlib.Core.Bool.{true, false}
use Rattle.flat.specs.Argument.{argument_fits, argument_rule}
use Rattle.flat.specs.Tree.{empty, field, count, head_kind, head_arg, size, depth, kinds_of, args_of}
use Rattle.flat.specs.Reader.{children, node_at, node_in}
use Rattle.flat.specs.Reading.{length_fits, kinds_fit, arguments_fit, reading}
use Rattle.flat.specs.Limits.{lists, fields_of}
use Rattle.flat.specs.Output.{fitting}
use Rattle.flat.specs.Both.{both_of}
use Rattle.encoded.specs.Encoding.{little_endian, number, arg_bytes, args_from, encoding}
use Rattle.encoded.specs.Encoding.{count_in, kinds_in, args_in, size_fits, decoding}
use Rattle.dtype.specs.Match.{among}
use Rattle.dtype.specs.Predicate.{is_float, is_unknown_int, is_signed_integer, is_unsigned_integer, is_integer}
use Rattle.dtype.specs.Predicate.{is_primitive_numeric, is_primitive, is_nested, is_string, is_unknown}
use Rattle.dtype.specs.Equality.{equal_node, equal}
use Rattle.dtype_cast.specs.Cast.{casts_with_boolean, before_nested, can_cast_to}
use Rattle.supertype_numbers.specs.DynInt.{value_of, materialize_dyn_int, materialize_dyn_int_pos}
use Rattle.supertype_numbers.specs.DynInt.{materialize_smallest_dyn_int}
use Rattle.supertype_numbers.specs.Range.{is_listed}
use Rattle.supertype_numbers.specs.Decimal.{fits_dec128}
use Rattle.dtype_build.specs.Materialize.{materialize, materialize_unknown}
use Rattle.dtype.specs.Physical.{physical_leaf, physical_kind}
use Rattle.dtype_build.specs.Build.{materialized}
use Rattle.supertype_lossless.specs.Lossless.{upcast_by, floats, signed, unsigned, mixed, upcast_where, upcast_of}
use Rattle.supertype_lossless.specs.Lossless.{lossless, lossless_of}
use Rattle.supertype_arms.specs.Supertype.{unknown_arms, arms, plan_of, smallest_fitting, dyn_number, run, inner}
use Rattle.supertype_arms.specs.Supertype.{fits_orig_prec_scale, beside_integer, supertype_with, known_supertype}
use Rattle.supertype_arms.specs.Supertype.{supertype}
use Rattle.supertype.specs.Pair.{pair_checked, root_supertype, supertype_of}
use Rattle.channels.specs.Merge.{merged_with, merged_of}
use Rattle.flat.specs.declared.TheConstants.Flat.{MAX_NODES, MAX_DEPTH}
use Rattle.encoded.specs.declared.TheConstants.Encoding.{ARGUMENT_BYTES}
use Rattle.channels.specs.declared.TheConstants.ChannelTypes.{CHANNELS}
use Rattle.cases.specs.Cases.{Hold, CasesHold}
use Rattle.cases.proofs.Nested.{nested_hold}

pub cases_hold : CasesHold MAX_NODES MAX_DEPTH CHANNELS ARGUMENT_BYTES
unfolding lists fields_of both_of argument_fits argument_rule count head_kind head_arg size depth kinds_of args_of
    children node_at node_in length_fits kinds_fit arguments_fit reading fitting little_endian number arg_bytes
    args_from encoding count_in kinds_in args_in size_fits decoding among is_float is_unknown_int is_signed_integer
    is_unsigned_integer is_integer is_primitive_numeric is_primitive is_nested is_string is_unknown equal_node equal
    casts_with_boolean before_nested can_cast_to value_of materialize_dyn_int materialize_dyn_int_pos
    materialize_smallest_dyn_int materialize materialize_unknown physical_leaf physical_kind materialized upcast_by
    floats signed unsigned mixed upcast_where upcast_of lossless lossless_of unknown_arms arms plan_of smallest_fitting
    dyn_number run inner supertype_with known_supertype supertype fits_dec128 fits_orig_prec_scale beside_integer
    is_listed pair_checked root_supertype supertype_of merged_with merged_of
cases_hold i true j t empty = (unfold Hold in refl, nested_hold _ i true j t)
cases_hold i false j t empty = (unfold Hold in refl, nested_hold _ i false j t)
cases_hold i true j t (field name u fs) = (unfold Hold in refl, nested_hold _ i true j t)
cases_hold i false j t (field name u fs) = (unfold Hold in refl, nested_hold _ i false j t)
