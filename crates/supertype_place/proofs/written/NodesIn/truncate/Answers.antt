-- `supertype_place::written::NodesIn::truncate` meets its contract. Assumes nothing.
use mathlib.Core.Path.{ap, ap₂, ◌∙◌}
use lib.ListN.{take}
use Rattle.supertype_place.specs.Written.{nodes_at}
use Rattle.supertype_place.proofs.Writes.{nodes_take}
use Rattle.supertype_place.proofs.written.NodesIn.truncate.Goals as goal

pub returns : goal.returns
returns g c =
    ap₂ nodes_at c.truncate.ensures.items c.truncate-2.ensures.items ∙ nodes_take c.args.n _ _
    ∙ ap (take c.args.n) c.self.view_is
