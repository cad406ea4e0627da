-- `supertype_numbers::integer::digits` meets its contract. Assumes nothing.
use mathlib.Core.Path.{◌∙◌}
use native.Mathlib.Omega.{arith}
use Rattle.supertype_numbers.proofs.Digits.{few, counted_by_bits}
use Rattle.supertype_numbers.proofs.Rows.{not_zero, bits_of_lem}
use Rattle.supertype_numbers.proofs.integer.digits.Goals as goal

pub bits-requires : goal.bits-requires
bits-requires c = not_zero c.requires c.integer.ensures

pub overflow_mul-result : goal.overflow_mul-result
overflow_mul-result c = omega (arith, few c.requires (c.bits.ensures ∙ bits_of_lem c.requires c.integer.ensures))

pub returns : goal.returns
returns c = counted_by_bits c.requires (c.bits.ensures ∙ bits_of_lem c.requires c.integer.ensures)
