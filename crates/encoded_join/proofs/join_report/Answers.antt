-- `encoded_join::join_report` meets its contract. Assumes nothing.
use Rattle.supertype_report.proofs.Roots.{reported}
use Rattle.encoded_join.proofs.join_report.Goals as goal

pub returns : goal.returns
returns c =
    reported _ _ c.check_root-l.ensures.0 c.check_root-r.ensures.0
    c.report_roots.ensures
