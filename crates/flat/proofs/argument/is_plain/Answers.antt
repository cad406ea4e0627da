-- `flat::argument::is_plain` meets its contract. Assumes nothing.
use mathlib.Core.Path.{ap, ◌∙◌}
use mathlib.Core.Bool.{not}
use mathlib.Core.Logic.{inl, inr}
use borrow.Author.Tests.{eq-eqb, ne_eqb}
use Rattle.flat.proofs.Plain.{argument_told, decimal_told, kind_told}
use Rattle.flat.proofs.argument.is_plain.Goals as goal
use Rattle.flat.proofs.argument.is_plain.Goals.{then-arg-eq0, else-arg-eq0}

pub returns-then-kind-ne-DECIMAL : goal.returns-then-kind-ne-DECIMAL
returns-then-kind-ne-DECIMAL c = kind_told _ _ c.if-kind-ne-DECIMAL.true.0 c.if-kind-ne-DECIMAL.true.1

pub returns-else-kind-ne-DECIMAL : goal.returns-else-kind-ne-DECIMAL
returns-else-kind-ne-DECIMAL c =
    elim c.if-arg-eq0.branch [
      | then-arg-eq0 w ↦ elim c.if-kind-ne-DECIMAL.either [
        | inl h ↦ w.t-4-is ∙ ap not (eq-eqb _ _ h.1) ∙ decimal_told _ _ h.0 h.1
        | inr h ↦ absurd (h w.if-arg-eq0.true)
      ]
      | else-arg-eq0 w ↦ w.t-4-is ∙ ne_eqb _ _ w.if-arg-eq0.false ∙ argument_told _ _ w.if-arg-eq0.false
    ]
