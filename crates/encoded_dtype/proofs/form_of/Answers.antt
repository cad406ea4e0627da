-- `encoded_dtype::form_of` meets its contract: few nodes, or as many as there can be. Assumes nothing.
use lib.Dec.{lit≤}
use Rattle.encoded.proofs.Answers.{short_few, nodes_few}
use Rattle.encoded_dtype.proofs.form_of.Goals as goal

pub form_in-requires : goal.form_in-requires
form_in-requires g c = (short_few _ _ _ _ c.if-encoded.true, lit≤ tt)

pub form_in-requires-2 : goal.form_in-requires-2
form_in-requires-2 g c = (nodes_few _ _ _, lit≤ tt)
