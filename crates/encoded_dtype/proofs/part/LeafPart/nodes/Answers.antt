-- `encoded_dtype::part::LeafPart::nodes` meets its contract. Assumes nothing.
use mathlib.Core.Path.{ap}
use Rattle.std.specs.Prelude.{Some}
use Rattle.dtype_inner.proofs.Endings.{finds_leaf}
use Rattle.encoded_dtype.proofs.Parts.{tells_part}
use Rattle.encoded_dtype.proofs.part.LeafPart.nodes.Goals as goal

pub returns : goal.returns
returns c = tells_part finds_leaf (ap Some c.leaf_nodes.ensures)
