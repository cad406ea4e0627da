-- `supertype_step::decide` meets its contract. Assumes nothing.
use native.Mathlib.Omega.{arith}
use Rattle.supertype_step.proofs.Leaf.{root_fits}
use Rattle.supertype_step.proofs.Sides.{by_beside}
use Rattle.supertype_step.proofs.decide.Goals as goal

pub leaves-requires : goal.leaves-requires
leaves-requires c =
    let pre = c.requires in
    (root_fits _ (omega arith) (pre.0.1 (omega arith)), root_fits _ (omega arith) (pre.1.1 (omega arith)))

pub returns-in-true-false : goal.returns-in-true-false
returns-in-true-false c = c.before-in-true-false.ensures _

pub returns-in-false-true : goal.returns-in-false-true
returns-in-false-true c = by_beside _ _ _ _ _ _ (omega arith) (omega arith) c.beside.ensures
