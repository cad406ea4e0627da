-- `supertype_place::names::Named::new` meets its contract. Assumes nothing.
use Rattle.supertype_place.proofs.Tables.{Entering}
use Rattle.supertype_place.proofs.names.Named.new.Given as goal

abbrev pub invariant-loop-field : goal.invariant-loop-field
invariant-loop-field l =
    (goal.iterator-loop-field).can_next l.rest × (goal.iterator-loop-field).is_finite l.rest
    × Entering l.fn.fields l.rest l.table
