-- `supertype_place::view::FlatFields::in_place` meets its contract. Assumes nothing.
use Rattle.std.proofs.Common.{◌≡◌}
use Rattle.supertype_nested.specs.Step.{in_place}
use Rattle.supertype_place.specs.Viewed.{viewed_run}
use Rattle.supertype_place.proofs.view.FlatFields.in_place.Given as goal

abbrev pub invariant-loop-a : goal.invariant-loop-a
invariant-loop-a l =
    in_place (viewed_run l.fn.self) (viewed_run l.fn.other) ≡ in_place (viewed_run l.l) (viewed_run l.r)

abbrev pub decreases-loop-a : goal.decreases-loop-a
decreases-loop-a l = l.l.left
