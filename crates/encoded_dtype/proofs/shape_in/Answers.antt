-- `encoded_dtype::shape_in` meets its contract. Assumes nothing.
use mathlib.Core.Path.{ap, ◌∙◌}
use Rattle.std.specs.Prelude.{Ok}
use Rattle.encoded.proofs.Opening.{opened}
use Rattle.encoded_dtype.proofs.Parts.{arrays_few, opened_shape}
use Rattle.encoded_dtype.proofs.shape_in.Goals as goal

pub array_shape-requires : goal.array_shape-requires
array_shape-requires g c = let o = opened c.in_ok-whole.ensures in (o.arrays.even, arrays_few o)

pub returns : goal.returns
returns g c = ap Ok c.array_shape.ensures ∙ opened_shape (opened c.in_ok-whole.ensures)
