-- `replay::replay_text` meets its contract. Assumes nothing.
use native.Mathlib.Omega.{arith}
use Rattle.replay.proofs.replay_text.Goals as goal

pub returns-in-Ok-None : goal.returns-in-Ok-None
returns-in-Ok-None c = omega (arith, c.loop-before.invariant, c.in-Some.ensures.steps)
