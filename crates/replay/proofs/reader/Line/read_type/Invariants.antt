-- `replay::reader::Line::read_type` meets its contract: the kinds so far are the front of the numbers. Assumes nothing.
use Rattle.std.proofs.Common.{◌≡◌, ◌∷◌, ◌++◌, length, take}
use Rattle.replay.proofs.reader.Line.read_type.Given as goal

abbrev pub invariant-loop-kind : goal.invariant-loop-kind
invariant-loop-kind l =
    (l.kinds.items ≡ take l.kind-index l.numbers)
    × (l.fn.self.rest.now ≡ length l.numbers ∷ (l.numbers ++ l.self.rest.now))
