-- `encoded_dtype::part::InnerPart::nodes` meets its contract. Assumes nothing.
use Rattle.dtype_inner.proofs.Endings.{finds_inner}
use Rattle.encoded_dtype.proofs.Parts.{tells_part}
use Rattle.encoded_dtype.proofs.part.InnerPart.nodes.Goals as goal

pub returns : goal.returns
returns c = tells_part finds_inner c.inner_nodes.ensures
