-- `supertype_step::before` meets its contract. Assumes nothing.
use mathlib.Core.Path.{sym, ◌∙◌}
use native.Mathlib.Omega.{arith}
use Rattle.supertype_step.proofs.Sides.{by_string, by_other}
use Rattle.supertype_step.proofs.before.Goals as goal
use Rattle.supertype_step.proofs.before.Goals.{in_default-via-in-16+else-takes_in, in_default-via-in_default-1}

pub returns-in-16 : goal.returns-in-16
returns-in-16 c =
    by_string _ _ _ _ (omega arith) (omega arith) c.in-16.is (sym c.takes_in.ensures ∙ c.if-takes_in.true)

pub returns-in_default : goal.returns-in_default
returns-in_default c =
    by_other _ _ _ _ (omega arith) (omega arith)
    (λ e. elim c.in_default.branch [
      | in_default-via-in-16+else-takes_in w ↦ sym w.takes_in.ensures ∙ w.if-takes_in.false
      | in_default-via-in_default-1 w ↦ absurd (omega (arith, e))
    ])
    c.beside.ensures
