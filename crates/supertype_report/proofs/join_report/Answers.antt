-- `supertype_report::join_report` meets its contract. Assumes nothing.
use Rattle.supertype_report.proofs.Roots.{reported}
use Rattle.supertype_report.proofs.join_report.Goals as goal

pub returns : goal.returns
returns c =
    reported _ _ c.check_root-left.ensures.0 c.check_root-right.ensures.0
    c.report_roots.ensures
