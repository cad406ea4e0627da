-- `supertype_place::written::NodesIn::len` meets its contract. Assumes nothing.
use mathlib.Core.Path.{sym, ap, ◌∙◌}
use lib.ListN.{length}
use Rattle.supertype_place.proofs.Writes.{nodes_length}
use Rattle.supertype_place.proofs.written.NodesIn.len.Goals as goal

pub returns : goal.returns
returns g c = c.len.ensures.value ∙ sym (nodes_length _ _ c.self.invariant) ∙ ap length c.self.view_is
