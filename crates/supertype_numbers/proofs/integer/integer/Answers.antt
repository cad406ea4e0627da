-- `supertype_numbers::integer::integer` meets its contract. Assumes nothing.
use Rattle.dtype.specs.Match.{among}
use Rattle.dtype.specs.Predicate.{is_signed_integer}
use Rattle.supertype_numbers.specs.Table.{row_of}
use Rattle.supertype_numbers.proofs.Rows.{row_at}
use Rattle.supertype_numbers.proofs.integer.integer.Goals as goal

pub returns : goal.returns
unfolding row_of is_signed_integer among
returns c = row_at _ c.requires
