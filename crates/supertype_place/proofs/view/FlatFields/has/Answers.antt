-- `supertype_place::view::FlatFields::has` meets its contract. Assumes nothing.
use mathlib.Core.Path.{◌∙◌}
use Rattle.supertype_place.proofs.Finds.{from_seen}
use Rattle.supertype_place.proofs.view.FlatFields.has.Goals as goal

pub returns : goal.returns
returns c = c.is_some.ensures ∙ from_seen _ _ _ c.from_first.ensures
