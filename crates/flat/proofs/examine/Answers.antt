-- `flat::examine` meets its contract: a law for each way out. Assumes nothing.
use mathlib.Core.Path.{sym, ◌∙◌}
use native.Mathlib.Omega.{arith}
use borrow.Author.Tests.{eqb-true, eqb-false}
use mathlib.Core.Bool.{false}
use mathlib.Core.Path.{◌≡◌}
use Prim.Native.Nat.{ℕ, ◌<◌}
use lib.Dec.{eqb}
use Rattle.flat.proofs.Checks.{uneven, no_node, Lengths, too_many, scan_passed, bad_kind, bad_argument, no_shape}
use Rattle.flat.proofs.examine.Goals as goal
use Rattle.flat.proofs.examine.Goals.{Else-kinds-gt-MAX_NODES, then-kinds-args-via-then-kinds-args, then-kinds-args-via-else-kinds-args+then-is_empty, then-kinds-args-via-else-kinds-args+else-is_empty+then-kinds-gt-MAX_NODES}

some : {n : ℕ} → eqb n 0 ≡ false → 0 < n
some {n} e = let h = eqb-false n 0 e in omega (arith, h)

pub returns-then-kinds-args : goal.returns-then-kinds-args
returns-then-kinds-args c =
    elim c.then-kinds-args.branch [
      | then-kinds-args-via-then-kinds-args w ↦ uneven _ _ _ _ w.if-kinds-args.true
      | then-kinds-args-via-else-kinds-args+then-is_empty w ↦ no_node _ _ _ _ w.if-kinds-args.false (eqb-true _ _ (sym w.if-is_empty.ensures))
      | then-kinds-args-via-else-kinds-args+else-is_empty+then-kinds-gt-MAX_NODES w ↦
          too_many _ _ (record { even = w.if-kinds-args.false; some = some (sym w.if-is_empty.ensures) }) w.if-kinds-gt-MAX_NODES.true
    ]

-- past the tests of the lengths
lengths : (c : Else-kinds-gt-MAX_NODES) → Lengths c.args.kinds.now c.args.args.now
lengths c = record { even = c.if-kinds-args.false; some = some (sym c.if-is_empty.ensures) }

pub check_depth-requires : goal.check_depth-requires
check_depth-requires c = sym c.passes.ensures ∙ c.if-passes.true

pub returns-then-passes : goal.returns-then-passes
returns-then-passes c =
    c.check_depth.ensures ∙ scan_passed _ _ (lengths (goal.at.returns-then-passes c).Else-kinds-gt-MAX_NODES) c.if-kinds-gt-MAX_NODES.false
    (sym c.passes.ensures ∙ c.if-passes.true)

pub returns-then-arguments_fit : goal.returns-then-arguments_fit
returns-then-arguments_fit c =
    no_shape _ _ (lengths (goal.at.returns-then-arguments_fit c).Else-kinds-gt-MAX_NODES) c.if-kinds-gt-MAX_NODES.false
    (sym c.arguments_fit.ensures ∙ c.if-arguments_fit.true) (sym c.passes.ensures ∙ c.if-passes.false)

pub returns-then-kinds_fit : goal.returns-then-kinds_fit
returns-then-kinds_fit c =
    bad_argument _ _ (lengths (goal.at.returns-then-kinds_fit c).Else-kinds-gt-MAX_NODES) c.if-kinds-gt-MAX_NODES.false
    (sym c.kinds_fit.ensures ∙ c.if-kinds_fit.true) (sym c.arguments_fit.ensures ∙ c.if-arguments_fit.false)

pub returns : goal.returns
returns c =
    bad_kind _ _ (lengths (goal.at.returns c).Else-kinds-gt-MAX_NODES) c.if-kinds-gt-MAX_NODES.false
    (sym c.kinds_fit.ensures ∙ c.if-kinds_fit.false)
