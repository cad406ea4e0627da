-- `supertype_place::written::NodesIn::new` meets its contract. Assumes nothing.
use mathlib.Core.Path.{ap₂, ◌∙◌}
use Rattle.supertype_place.specs.Written.{nodes_at}
use Rattle.supertype_place.proofs.Writes.{nodes_none}
use Rattle.supertype_place.proofs.written.NodesIn.new.Goals as goal

pub returns : goal.returns
returns g c = ap₂ nodes_at c.new.ensures c.new-2.ensures ∙ nodes_none
