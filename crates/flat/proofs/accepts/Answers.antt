-- `flat::accepts` meets its contract. Assumes nothing.
use mathlib.Core.Path.{◌∙◌}
use mathlib.Core.Logic.{inl, inr}
use borrow.Author.Tests.{lt-leb, ne_eqb}
use native.Mathlib.Omega.{arith}
use Rattle.flat.proofs.Scanned.{uneven_told, many_told, scan_told}
use Rattle.flat.proofs.accepts.Goals as goal
use Rattle.flat.proofs.accepts.Goals.{then-kinds-args, else-kinds-args}

pub returns-then-kinds-le-MAX_NODES : goal.returns-then-kinds-le-MAX_NODES
returns-then-kinds-le-MAX_NODES c =
    c.passes.ensures ∙ scan_told _ _ _ _ (omega (arith, c.if-kinds-le-MAX_NODES.true)) (omega (arith, c.if-kinds-le-MAX_NODES.true))

pub returns-else-kinds-le-MAX_NODES : goal.returns-else-kinds-le-MAX_NODES
returns-else-kinds-le-MAX_NODES c =
    elim c.if-kinds-args.branch [
      | then-kinds-args w ↦ elim c.if-kinds-le-MAX_NODES.either [
        | inl h ↦ w.t-4-is ∙ lt-leb _ _ (omega (arith, h.1)) ∙ many_told _ _ _ _ h.0 (omega (arith, h.1))
        | inr h ↦ absurd (h w.if-kinds-args.true)
      ]
      | else-kinds-args w ↦ w.t-4-is ∙ ne_eqb _ _ w.if-kinds-args.false ∙ uneven_told _ _ _ _ w.if-kinds-args.false
    ]
