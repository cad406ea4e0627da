-- `supertype_step::both` meets its contract. Assumes nothing.
use native.Mathlib.Omega.{arith}
use Rattle.std.proofs.lemmas.Grind.{common_steps}
use Rattle.supertype_step.proofs.Nest.{by_fields, by_right, by_left, by_list, by_array}
use Rattle.supertype_step.proofs.both.Goals as goal
use Rattle.supertype_step.proofs.both.Goals.{then-l-eq-ARRAY+else-eq, else-l-eq-ARRAY}

pub returns-in-true-true : goal.returns-in-true-true
returns-in-true-true c = by_fields _ _ _ _ _ (omega arith) (omega arith)

pub returns-in-true-false : goal.returns-in-true-false
returns-in-true-false c = rw c.then_some.ensures (by_right _ _ _ _ _ (omega arith) (omega arith, omega arith) c.takes_in.ensures)

pub returns-in-false-true : goal.returns-in-false-true
returns-in-false-true c =
    rw c.then_some-in-false-true.ensures
    (by_left _ _ _ _ _ (omega arith, omega arith) (omega arith) c.takes_in-in-false-true.ensures)

pub returns-in-false-false : goal.returns-in-false-false
returns-in-false-false c =
    by_array _ _ _ _ _ (omega arith) (grind (arith, common_steps)) (grind (arith, common_steps))

pub returns-in-false-false-2 : goal.returns-in-false-false-2
returns-in-false-false-2 c =
    by_list _ _ _ _ _ (cc) (omega arith, omega arith) (omega arith, omega arith)
    (λ e. elim c.if-l-eq-ARRAY.branch [
      | then-l-eq-ARRAY+else-eq w ↦ grind (arith, common_steps)
      | else-l-eq-ARRAY w ↦ w.if-l-eq-ARRAY.false e.0
    ])
