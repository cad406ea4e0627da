-- `encoded_pair::ask` meets its contract: few arguments, or as many as there can be. Assumes nothing.
use lib.Dec.{lit≤}
use Rattle.encoded.proofs.Answers.{nodes_few}
use Rattle.encoded_pair.proofs.Asking.{short_room}
use Rattle.encoded_pair.proofs.ask.Goals as goal

pub ask_in-requires : goal.ask_in-requires
ask_in-requires g c = (short_room _ c.if-both_short.ensures, lit≤ tt)

pub ask_in-requires-2 : goal.ask_in-requires-2
ask_in-requires-2 g c = (record { left = nodes_few _ _ _; right = nodes_few _ _ _ }, lit≤ tt)
