-- `encoded_dtype::part::ArrayLeafPart::nodes` meets its contract. Assumes nothing.
use Rattle.dtype_inner.proofs.Endings.{finds_array_leaf}
use Rattle.encoded_dtype.proofs.Parts.{tells_part}
use Rattle.encoded_dtype.proofs.part.ArrayLeafPart.nodes.Goals as goal

pub returns : goal.returns
returns c = tells_part finds_array_leaf c.array_leaf_nodes.ensures
