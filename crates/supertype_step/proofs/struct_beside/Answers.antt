-- `supertype_step::struct_beside` meets its contract. Assumes nothing.
use mathlib.Core.Path.{sym, ◌∙◌}
use native.Mathlib.Omega.{arith}
use Rattle.supertype_step.proofs.Sides.{at_each, at_empty, at_first, struct_nothing, struct_unknown}
use Rattle.supertype_step.proofs.struct_beside.Goals as goal

pub returns-in-true : goal.returns-in-true
returns-in-true c = at_each _ _ _ c.requires (sym c.is_primitive_numeric.ensures ∙ c.in-true.is) (omega arith)

pub returns-in-true-2 : goal.returns-in-true-2
returns-in-true-2 c =
    at_empty _ _ _ c.requires (sym c.is_primitive_numeric.ensures ∙ c.in-true.is) (omega arith) (omega arith)

pub returns-in-true-3 : goal.returns-in-true-3
returns-in-true-3 c =
    at_first _ _ _ c.requires (sym c.is_primitive_numeric.ensures ∙ c.in-true.is) (omega arith) c.if-count-eq0.false

pub returns-in-false : goal.returns-in-false
returns-in-false c =
    struct_nothing _ _ _ c.requires (sym c.is_primitive_numeric.ensures ∙ c.in-false.is) (omega arith)

pub returns-in-false-2 : goal.returns-in-false-2
returns-in-false-2 c =
    struct_unknown _ _ _ c.requires (cc) (sym c.is_primitive_numeric.ensures ∙ c.in-false.is) (omega arith)
