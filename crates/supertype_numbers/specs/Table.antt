-- A row of the fixed table of the integer types. Assumes nothing: these are definitions.
use Rattle.std.specs.Prelude.{ℕ}
use Rattle.dtype.specs.Predicate.{is_signed_integer}
use Rattle.supertype_numbers.specs.Integer.{width_of}
use Rattle.supertype_numbers.specs.declared.integer.IntegerType.{IntegerType}

-- the width in bits of the kind k, and whether it has a sign
unfoldable pub row_of : ℕ → IntegerType
row_of k = record { width = width_of k; signed = is_signed_integer k }
