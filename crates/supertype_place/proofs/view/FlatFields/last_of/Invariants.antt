-- `supertype_place::view::FlatFields::last_of` meets its contract. Assumes nothing.
use Rattle.std.proofs.Common.{◌≡◌}
use Rattle.supertype_nested.specs.Union.{last_or}
use Rattle.supertype_place.specs.Viewed.{viewed_run, viewed}
use Rattle.supertype_place.proofs.view.FlatFields.last_of.Given as goal

abbrev pub invariant-loop-field : goal.invariant-loop-field
invariant-loop-field l =
    last_or l.name (viewed l.fn.held) (viewed_run l.fn.self)
    ≡ last_or l.name (viewed l.last) (viewed_run l.field-iterator)
