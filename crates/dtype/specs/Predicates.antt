-- The predicates by name: what each says of a type, and how the kinds of a valid type tell it.
-- Assumes nothing: these are definitions.
use Rattle.std.specs.Prelude.{Bool, not, List, ℕ, get_or}
use Rattle.std.specs.List.{list_any}
use Rattle.flat.specs.Tree.{DataType}
use Rattle.dtype.specs.Predicate.{root, is_temporal, is_float, is_signed_integer, is_unsigned_integer, is_integer}
use Rattle.dtype.specs.Predicate.{is_primitive_numeric, is_primitive, is_nested, is_string, is_unknown}
use Rattle.dtype.specs.Recursive.{is_known, is_logical, contains_unknown, contains_list_recursive}
use Rattle.dtype.specs.Scan.{is_list_kind, is_logical_kind}
use Rattle.dtype.specs.declared.predicate.Predicate.{Predicate}

abbrev pub predicate_of : Predicate → DataType → Bool
predicate_of Predicate.IsNested = root is_nested
predicate_of Predicate.IsKnown = is_known
predicate_of Predicate.IsLogical = is_logical
predicate_of Predicate.IsPrimitive = root is_primitive
predicate_of Predicate.IsPrimitiveNumeric = root is_primitive_numeric
predicate_of Predicate.IsTemporal = root is_temporal
predicate_of Predicate.IsFloat = root is_float
predicate_of Predicate.IsInteger = root is_integer
predicate_of Predicate.IsSignedInteger = root is_signed_integer
predicate_of Predicate.IsUnsignedInteger = root is_unsigned_integer
predicate_of Predicate.IsString = root is_string
predicate_of Predicate.IsUnknown = root is_unknown
predicate_of Predicate.ContainsUnknown = contains_unknown
predicate_of Predicate.ContainsListRecursive = contains_list_recursive

-- by the first kind, which is the root's, or by them all
abbrev pub told_by : Predicate → List ℕ → Bool
told_by Predicate.IsNested ks = is_nested (get_or ks 0 0)
told_by Predicate.IsKnown ks = not (list_any is_unknown ks)
told_by Predicate.IsLogical ks = list_any is_logical_kind ks
told_by Predicate.IsPrimitive ks = is_primitive (get_or ks 0 0)
told_by Predicate.IsPrimitiveNumeric ks = is_primitive_numeric (get_or ks 0 0)
told_by Predicate.IsTemporal ks = is_temporal (get_or ks 0 0)
told_by Predicate.IsFloat ks = is_float (get_or ks 0 0)
told_by Predicate.IsInteger ks = is_integer (get_or ks 0 0)
told_by Predicate.IsSignedInteger ks = is_signed_integer (get_or ks 0 0)
told_by Predicate.IsUnsignedInteger ks = is_unsigned_integer (get_or ks 0 0)
told_by Predicate.IsString ks = is_string (get_or ks 0 0)
told_by Predicate.IsUnknown ks = is_unknown (get_or ks 0 0)
told_by Predicate.ContainsUnknown ks = list_any is_unknown ks
told_by Predicate.ContainsListRecursive ks = list_any is_list_kind ks
