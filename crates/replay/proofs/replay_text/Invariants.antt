-- `replay::replay_text` meets its contract: no more lines differ than were read. Assumes nothing.
use Rattle.std.proofs.Common.{◌≤◌}
use Rattle.std.specs.Iterator.Adapters.{enumerate_count}
use Rattle.replay.proofs.replay_text.Given as goal

abbrev pub invariant-loop-before : goal.invariant-loop-before
invariant-loop-before l =
    (goal.iterator-loop-before).can_next l.before-iterator
    × (goal.iterator-loop-before).is_finite l.before-iterator
    × (l.differ ≤ enumerate_count l.before-iterator)
