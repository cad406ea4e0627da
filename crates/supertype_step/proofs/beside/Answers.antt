-- `supertype_step::beside` meets its contract. Assumes nothing.
use mathlib.Core.Path.{sym, ◌∙◌}
use native.Mathlib.Omega.{arith}
use Rattle.supertype_step.proofs.Sides.{at_string, at_null, at_list, at_none, at_unknown}
use Rattle.supertype_step.proofs.beside.Goals as goal

pub returns-in-16 : goal.returns-in-16
returns-in-16 c = at_string _ _ _ _ _ (cc) c.in-16.is

pub returns-in-0 : goal.returns-in-0
returns-in-0 c = at_null _ _ _ _ _ c.in-0.is

pub returns-in_default : goal.returns-in_default
returns-in_default c = rw c.if-n-eq-STRUCT.true (c.struct_beside.ensures _)

pub returns-in_default-2 : goal.returns-in_default-2
returns-in_default-2 c =
    at_list _ _ _ (omega arith, (λ e. omega arith), (λ e. omega arith)) _ _ (sym c.takes_in.ensures ∙ c.if-takes_in.true)

pub returns-in_default-3 : goal.returns-in_default-3
returns-in_default-3 c =
    at_none _ _ _ (omega arith, (λ e. omega arith), (λ e. omega arith)) _ _ (omega arith) (omega arith)
    (sym c.takes_in.ensures ∙ c.if-takes_in.false) (omega arith)

pub returns-in_default-4 : goal.returns-in_default-4
returns-in_default-4 c =
    at_unknown _ _ _ (omega arith, (λ e. omega arith), (λ e. omega arith)) _ _ (omega arith) (omega arith)
    (sym c.takes_in.ensures ∙ c.if-takes_in.false) (cc) (omega arith)
