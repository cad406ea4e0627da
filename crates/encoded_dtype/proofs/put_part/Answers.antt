-- `encoded_dtype::put_part` meets its contract: never more than many. Assumes nothing.
use lib.Dec.{lit≤}
use Rattle.encoded.proofs.Answers.{nodes_few}
use Rattle.encoded_dtype.proofs.put_part.Goals as goal

pub put_part_in-requires-2 : goal.put_part_in-requires-2
put_part_in-requires-2 g c = (nodes_few _ _ _, lit≤ tt)
