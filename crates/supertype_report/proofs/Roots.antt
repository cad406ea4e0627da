-- The report on two types rests on the kinds at their roots. Assumes nothing.
use mathlib.Core.Path.{◌≡◌, sym, ap₂, ◌∙◌}
use Rattle.std.specs.Prelude.{Result, Ok, Err}
use Rattle.flat.specs.Reading.{Reading, root_of}
use Rattle.flat.specs.declared.error.Error.{Error}
use Rattle.flat.specs.declared.Node.{Node}
use Rattle.flat.proofs.Pairs.{by_roots}
use Rattle.supertype_report.specs.Report.{report_of, roots_report, types_report}
use Rattle.supertype_report.specs.declared.Report.{Report}

pub reported : (left right : Reading) {l r : Result Node Error} {x : Result Report Error} → l ≡ root_of left → r ≡ root_of right
    → x ≡ roots_report l r → x ≡ types_report left right
unfolding types_report
reported left right p q e =
    e ∙ ap₂ roots_report p q ∙ sym (by_roots Err (λ k a l b. Ok (report_of k l)) left right)
