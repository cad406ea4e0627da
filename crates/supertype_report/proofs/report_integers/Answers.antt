-- `supertype_report::report_integers` meets its contract. Assumes nothing.
use mathlib.Core.Path.{◌≡◌, sym, ap, ◌∙◌}
use native.Mathlib.Omega.{arith}
use Rattle.supertype_report.specs.Kept.{Kept}
use Rattle.supertype_report.specs.Report.{by_upcast, report_of}
use Rattle.supertype_report.proofs.Keeping.{OfKind, no, keeps, listed, misses, rounds, lossy}
use Rattle.supertype_report.proofs.Pairs.{of_kinds}
use Rattle.supertype_report.proofs.Settled.{report_laws}
use Rattle.supertype_report.proofs.report_integers.Goals as goal
use Rattle.supertype_report.proofs.report_integers.Goals.{else-t-le-INT128-via-then-t-le-INT128+then-includes+else-includes-2}
use Rattle.supertype_report.proofs.report_integers.Goals.{else-t-le-INT128-via-then-t-le-INT128+else-includes}
use Rattle.supertype_report.proofs.report_integers.Goals.{else-t-le-INT128-via-else-t-le-INT128}
use Rattle.supertype_report.proofs.report_integers.Goals.{After-numeric_supertype-t, After-upcast_kinds}
use Rattle.supertype_report.proofs.report_integers.Goals.{Joined-else-t-le-INT128}

-- the kind of the supertype
joined : (c : After-numeric_supertype-t)
    → OfKind c.args.a c.args.b c.numeric_supertype-t.result
joined c = record { integers = c.requires; is = of_kinds _ _ _ c.numeric_supertype-t.ensures }

pub includes-requires : goal.includes-requires
includes-requires c =
    (listed (joined (goal.at.includes-requires c).After-numeric_supertype-t) (omega arith), omega arith)

pub includes-requires-then-includes : goal.includes-requires-then-includes
includes-requires-then-includes c =
    (listed (joined (goal.at.includes-requires-then-includes c).After-numeric_supertype-t) (omega arith), omega arith)

pub returns-then-includes-2 : goal.returns-then-includes-2
returns-then-includes-2 c =
    let w = joined (goal.at.returns-then-includes-2 c).After-numeric_supertype-t in
    report_laws.only _ _ _
    (w.integers, keeps w (c.includes.ensures.0 (cc)) (c.includes-then-includes.ensures.0 (cc)))

-- where the supertype doesn't keep both
lost : (j : Joined-else-t-le-INT128) → let a = j.args in Kept a.a a.b → ⊥
lost j =
    let w = joined (goal.at.Joined-else-t-le-INT128 j).After-numeric_supertype-t in
    elim j.else-t-le-INT128.branch [
      | else-t-le-INT128-via-then-t-le-INT128+then-includes+else-includes-2 x ↦
          misses w x.if-t-le-INT128.true (λ f g. no x.includes-then-includes.ensures x.if-includes-2.false g)
      | else-t-le-INT128-via-then-t-le-INT128+else-includes x ↦
          misses w x.if-t-le-INT128.true (λ f g. no x.includes.ensures x.if-includes.false f)
      | else-t-le-INT128-via-else-t-le-INT128 x ↦ rounds w x.if-t-le-INT128.false
    ]

by-upcast : (c : After-upcast_kinds)
    → let a = c.args in by_upcast c.upcast_kinds.result ≡ report_of a.a a.b
by-upcast c =
    ap by_upcast c.upcast_kinds.ensures
    ∙ report_laws.only _ _ _
    (lossy (joined (goal.at.After-upcast_kinds c).After-numeric_supertype-t).integers
    (lost (goal.at.After-upcast_kinds c).Joined-else-t-le-INT128))

pub returns-in-Some : goal.returns-in-Some
returns-in-Some c = ap by_upcast (sym c.in-Some.is) ∙ by-upcast (goal.at.returns-in-Some c).After-upcast_kinds

pub returns-in-None : goal.returns-in-None
returns-in-None c = ap by_upcast (sym c.in-None.is) ∙ by-upcast (goal.at.returns-in-None c).After-upcast_kinds
