-- `encoded::encode` meets its contract: a check, then `put`. Assumes nothing.
use Rattle.std.proofs.lemmas.Result.{err_from_is_err_and}
use Rattle.flat.specs.Reading.{reading}
use Rattle.flat.proofs.Truths.{Fact, fact}
use Rattle.flat.proofs.Meaning.{check_passed, checked_refused}
use Rattle.encoded.specs.Answer.{fitting_bytes}
use Rattle.encoded.proofs.Answers.{encodes_refused, puts_type}
use Rattle.encoded.proofs.encode.Goals as goal
use Rattle.encoded.proofs.encode.Goals.{In_ok-check}

pub returns-in_err-check : goal.returns-in_err-check
unfolding fitting_bytes
returns-in_err-check c =
    let p = err_from_is_err_and c.from_residual.result c.from_residual.ensures.1 in
    rw (p.1, p.2) (encodes_refused (rw (checked_refused (reading _ _ _ _) _ c.in_err-check.ensures)))

-- the arrays are a type
abbrev passed : In_ok-check → Fact
passed c = fact (check_passed c.in_ok-check.ensures)

pub put-requires : goal.put-requires
put-requires c =
    let p = (passed (goal.at.put-requires c).In_ok-check).proof in (p.even, rw (← p.whole) p.form.is_type.within)

pub returns : goal.returns
returns c =
    let p = (passed (goal.at.returns c).In_ok-check).proof in
    rw p.reads (puts_type p.tree p.form.kinds p.form.args c.put.ensures)
