-- `dtype_eq::nodes::alike` meets its contract. Assumes nothing.
use mathlib.Core.Path.{sym, ◌∙◌}
use mathlib.Core.Logic.{inl, inr}
use Rattle.flat.proofs.Truths.{never}
use Rattle.dtype_eq.proofs.Steps.{other_length, uneven, same_length, same_alike}
use Rattle.dtype_eq.proofs.nodes.alike.Goals as goal
use Rattle.dtype_eq.proofs.nodes.alike.Goals.{then-eq, else-eq}

pub returns-then-kinds-other_kinds : goal.returns-then-kinds-other_kinds
returns-then-kinds-other_kinds c =
    elim c.then-kinds-other_kinds.either [ inl h ↦ other_length _ _ _ _ h | inr h ↦ uneven _ _ _ _ h.1 ]

pub returns-then-eq-2 : goal.returns-then-eq-2
returns-then-eq-2 c =
    elim c.if-eq.branch [
      | then-eq w ↦ search same_alike
      | else-eq w ↦ never (sym w.if-eq.false ∙ sym w.value-is ∙ c.if-eq-2.true)
    ]

pub returns-else-eq-2 : goal.returns-else-eq-2
returns-else-eq-2 c =
    same_length _ _ _ _ c.if-kinds-other_kinds.false c.if-other_kinds-other_args.false c.starts_with.ensures
