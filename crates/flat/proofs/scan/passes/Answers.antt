-- `flat::scan::passes` meets its contract: the loop stands before a type, and past it before the fields still owed.
-- Assumes nothing.
use mathlib.Core.Path.{sym, ◌∙◌}
use native.Mathlib.Omega.{arith}
use Rattle.flat.proofs.Scanning.{at_start, nothing_owed, type_end, bad_type, NodeFits, past_leaf, UnderOne, wrapped_asks, past_one}
use Rattle.flat.proofs.Scanning.{deep_one, opened_asks, past_struct, deep_struct, Past, none_owed, field_missing}
use Rattle.flat.proofs.Scanning.{FieldDue, bad_field, past_field}
use Rattle.flat.proofs.scan.passes.Goals as goal
use Rattle.flat.proofs.scan.passes.Goals.{in-0-to-27, in_default+else-s-deep-2, After-wrapped-s, Else-at-kinds}
use Rattle.flat.proofs.scan.passes.Goals.{Else-not-type_fits, Joined-kind-lt28}

pub loop-at-init : goal.loop-at-init
loop-at-init c = at_start c.requires (nothing_owed c.default-s.result c.default-s.ensures)

pub returns-then-not-type_fits : goal.returns-then-not-type_fits
returns-then-not-type_fits c =
    bad_type c.loop-at.invariant (omega arith)
    (sym c.type_fits.ensures ∙ c.if-not-type_fits.true)

-- the node fits
node : (c : Else-not-type_fits) → NodeFits c.loop-at.invariant
node c = record { inside = omega arith; fits = sym c.type_fits.ensures ∙ c.if-not-type_fits.false }

pub wrapped-s-requires : goal.wrapped-s-requires
wrapped-s-requires c = wrapped_asks (node (goal.at.wrapped-s-requires c).Else-not-type_fits)

-- under a List or an Array
one : (c : After-wrapped-s) → UnderOne (node (goal.at.After-wrapped-s c).Else-not-type_fits) c.wrapped-s.result
one c = record { low = omega arith; high = omega arith; state = c.wrapped-s.ensures }

pub returns-then-s-deep : goal.returns-then-s-deep
returns-then-s-deep c = deep_one (one (goal.at.returns-then-s-deep c).After-wrapped-s) c.if-s-deep.true

pub loop-at-preserved-in-28-to-29 : goal.loop-at-preserved-in-28-to-29
loop-at-preserved-in-28-to-29 c =
    past_one (one (goal.at.loop-at-preserved-in-28-to-29 c).After-wrapped-s) c.if-s-deep.false

pub opened-s-requires : goal.opened-s-requires
opened-s-requires c = opened_asks (node (goal.at.opened-s-requires c).Else-not-type_fits) (omega arith)

pub returns-then-s-deep-2 : goal.returns-then-s-deep-2
returns-then-s-deep-2 c =
    deep_struct (node (goal.at.returns-then-s-deep-2 c).Else-not-type_fits) (omega arith) c.opened-s.ensures
    c.if-s-deep-2.true

-- past a leaf, or under a Struct
past : (j : Joined-kind-lt28) → Past j.loop-at.invariant j.if-kind-lt28.s
past j =
    elim j.if-kind-lt28.branch [
      | in-0-to-27 w ↦ rw w.s-is (past_leaf (node (goal.at.Joined-kind-lt28 j).Else-not-type_fits) (omega arith))
      | in_default+else-s-deep-2 w ↦
          rw w.s-is
          (past_struct (node (goal.at.Joined-kind-lt28 j).Else-not-type_fits) (omega arith) w.opened-s.ensures
          (omega arith))
    ]

pub returns-then-s-eq0 : goal.returns-then-s-eq0
returns-then-s-eq0 c = none_owed (past (goal.at.returns-then-s-eq0 c).Joined-kind-lt28) c.if-s-eq0.true

pub returns-then-at-kinds : goal.returns-then-at-kinds
returns-then-at-kinds c =
    field_missing (past (goal.at.returns-then-at-kinds c).Joined-kind-lt28) c.if-s-eq0.false c.if-at-kinds.true

-- a field is due
due : (c : Else-at-kinds) → FieldDue (past (goal.at.Else-at-kinds c).Joined-kind-lt28)
due c = record { more = omega (arith, c.if-s-eq0.false); inside = omega arith }

pub returns-then-not-field_fits : goal.returns-then-not-field_fits
returns-then-not-field_fits c =
    bad_field (due (goal.at.returns-then-not-field_fits c).Else-at-kinds)
    (sym c.field_fits.ensures ∙ c.if-not-field_fits.true)

pub paid-s-requires : goal.paid-s-requires
paid-s-requires c = (due (goal.at.paid-s-requires c).Else-at-kinds).more

pub loop-at-preserved : goal.loop-at-preserved
loop-at-preserved c =
    past_field (due (goal.at.loop-at-preserved c).Else-at-kinds)
    (sym c.field_fits.ensures ∙ c.if-not-field_fits.false) c.paid-s.ensures

pub returns : goal.returns
returns c = type_end c.loop-at.invariant c.loop-at-test.false
