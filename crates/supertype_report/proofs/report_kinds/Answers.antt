-- `supertype_report::report_kinds` meets its contract. Assumes nothing.
use mathlib.Core.Path.{sym, ◌∙◌}
use Rattle.supertype_numbers.proofs.Tests.{listed, not_listed}
use Rattle.supertype_report.proofs.Settled.{report_laws}
use Rattle.supertype_report.proofs.report_kinds.Goals as goal
use Rattle.supertype_report.proofs.report_kinds.Goals.{else-is_listed-via-then-is_listed+else-is_listed-2}
use Rattle.supertype_report.proofs.report_kinds.Goals.{else-is_listed-via-else-is_listed}

pub report_integers-requires : goal.report_integers-requires
report_integers-requires c = (
  listed (sym c.is_listed.ensures ∙ c.if-is_listed.true),
  listed (sym c.is_listed-then-is_listed.ensures ∙ c.if-is_listed-2.true),
)

pub returns : goal.returns
returns c =
    report_laws.only _ _ _
    (λ h. elim c.else-is_listed.branch [
      | else-is_listed-via-then-is_listed+else-is_listed-2 w ↦
          not_listed (sym w.is_listed-then-is_listed.ensures ∙ w.if-is_listed-2.false) h.1
      | else-is_listed-via-else-is_listed w ↦ not_listed (sym c.is_listed.ensures ∙ w.if-is_listed.false) h.0
    ])
