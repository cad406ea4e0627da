-- The check's walk: `node_span` and `field_span` call each other. The measure is the number of nodes in the arrays that
-- a member is handed. Each call hands on fewer. Assumes nothing.
use Rattle.std.proofs.Common.{length, ◌-◌}
use Rattle.flat.proofs.Spans.{SpansAlong}
use Rattle.flat.proofs.span.+field_span_node_span.Given as goal

abbrev pub decreases-field_span : goal.decreases-field_span
decreases-field_span l = length l.kinds.now

abbrev pub decreases-node_span : goal.decreases-node_span
decreases-node_span l = length l.kinds.now

abbrev pub invariant-field_span-loop : goal.invariant-field_span-loop
invariant-field_span-loop l = SpansAlong (length l.kinds) l.levels l.count l.kinds l.args l.at (l.count - l.counter)
