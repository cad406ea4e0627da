-- `supertype_step::leaves` meets its contract. Assumes nothing.
use Rattle.std.proofs.Common.{◌≡◌}
use Rattle.std.proofs.lemmas.Grind.{common_steps}
use native.Mathlib.Omega.{arith}
use Rattle.supertype_step.proofs.Leaf.{step_of, by_leaves}
use Rattle.supertype_step.proofs.leaves.Goals as goal

pub returns : goal.returns
returns c =
    let m : c.map.result ≡ step_of c.node_supertype.result = grind (arith, common_steps) in
    by_leaves _ c.requires.0 c.requires.1 c.node_supertype.ensures m
