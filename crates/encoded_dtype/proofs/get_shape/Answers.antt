-- `encoded_dtype::get_shape` meets its contract: never more than many. Assumes nothing.
use lib.Dec.{lit≤}
use Rattle.encoded.proofs.Answers.{nodes_few}
use Rattle.encoded_dtype.proofs.get_shape.Goals as goal

pub shape_in-requires-2 : goal.shape_in-requires-2
shape_in-requires-2 c = (nodes_few _ _ _, lit≤ tt)
