-- `supertype_place::names::Named::has` meets its contract. Assumes nothing.
use mathlib.Core.Path.{◌∙◌}
use Rattle.supertype_place.proofs.Finds.{found_seen}
use Rattle.supertype_place.proofs.names.Named.has.Goals as goal

pub returns : goal.returns
returns c = c.is_some.ensures ∙ found_seen _ _ _ c.find.ensures
