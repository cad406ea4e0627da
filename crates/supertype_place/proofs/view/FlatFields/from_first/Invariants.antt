-- `supertype_place::view::FlatFields::from_first` meets its contract. Assumes nothing.
use Rattle.std.proofs.Common.{◌≡◌}
use Rattle.supertype_place.specs.Viewed.{viewed_run, from_named}
use Rattle.supertype_place.proofs.view.FlatFields.from_first.Given as goal

abbrev pub invariant-loop-field : goal.invariant-loop-field
invariant-loop-field l = from_named l.name (viewed_run l.self) ≡ from_named l.name (viewed_run l.rest)

abbrev pub decreases-loop-field : goal.decreases-loop-field
decreases-loop-field l = l.rest.left
