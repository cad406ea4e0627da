-- `supertype_place::written::NodesIn::push` meets its contract. Assumes nothing.
use mathlib.Core.List.{◌++◌}
use mathlib.Core.Path.{ap, ap₂, ◌∙◌}
use native.Mathlib.Omega.{arith}
use lib.ListN.{length}
use Rattle.supertype_place.specs.Written.{nodes_at}
use Rattle.supertype_place.proofs.Writes.{nodes_append, nodes_length, nodes_one}
use Rattle.supertype_place.proofs.written.NodesIn.push.Goals as goal

pub push-requires : goal.push-requires
push-requires g c =
    (omega arith, omega (arith, nodes_length _ _ c.self.invariant, ap length c.self.view_is, c.requires))

pub push-requires-2 : goal.push-requires-2
push-requires-2 g c = (
  omega arith,
  omega (arith, nodes_length _ _ c.self.invariant, ap length c.self.view_is, c.requires, c.self.invariant),
)

pub returns : goal.returns
returns g c =
    ap₂ nodes_at c.push.ensures.items c.push-2.ensures.items ∙ nodes_append _ _ _ _ c.self.invariant
    ∙ ap₂ (λ a b. a ++ b) c.self.view_is (nodes_one c.args.node.kind c.args.node.arg)
