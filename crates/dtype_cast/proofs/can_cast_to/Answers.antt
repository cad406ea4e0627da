-- `dtype_cast::can_cast_to` meets its contract: the check of the one type, that of the other, then the verdict on both.
-- Assumes nothing.
use mathlib.Core.Path.{sym, ◌∙◌}
use Rattle.std.proofs.lemmas.Result.{err_from_is_err_and}
use Rattle.flat.specs.Reading.{reading}
use Rattle.flat.proofs.Truths.{Fact, fact, handed_on}
use Rattle.flat.proofs.Meaning.{check_passed, checked_refused}
use Rattle.flat.proofs.Pairs.{left_refused, right_refused}
use Rattle.dtype_cast.proofs.Entry.{scanned, checked_verdict}
use Rattle.dtype_cast.proofs.can_cast_to.Goals as goal
use Rattle.dtype_cast.proofs.can_cast_to.Goals.{In_ok-check, In_ok-check-2}

-- both are types
abbrev from-passed : In_ok-check → Fact
from-passed c = fact (check_passed (sym c.in_ok-check.was ∙ c.check.ensures))

abbrev to-passed : In_ok-check-2 → Fact
to-passed c = fact (check_passed (sym c.in_ok-check-2.was ∙ c.check-2.ensures))

pub returns-in_err-check : goal.returns-in_err-check
returns-in_err-check c =
    let from = checked_refused (reading _ _ _ _) _ (sym c.in_err-check.was ∙ c.check.ensures) in
    handed_on (err_from_is_err_and c.from_residual.result c.from_residual.ensures.1) ∙ sym (left_refused _ _ _ _ from)

pub returns-in_err-check-2 : goal.returns-in_err-check-2
returns-in_err-check-2 c =
    let from = check_passed (sym c.in_ok-check.was ∙ c.check.ensures) in
    let to = checked_refused (reading _ _ _ _) _ (sym c.in_err-check-2.was ∙ c.check-2.ensures) in
    handed_on (err_from_is_err_and c.from_residual-in_err-check-2.result c.from_residual-in_err-check-2.ensures.1) ∙ sym (right_refused _ _ _ _ from.reads to)

pub all_yes-requires : goal.all_yes-requires
all_yes-requires c = record {
  from_kinds_len = (from-passed (goal.at.all_yes-requires c).In_ok-check).proof.even;
  to_kinds_len = (to-passed (goal.at.all_yes-requires c).In_ok-check-2).proof.even;
}

pub walk_verdict-requires : goal.walk_verdict-requires
walk_verdict-requires c = record {
  from_valid = (from-passed (goal.at.walk_verdict-requires c).In_ok-check).proof.valid;
  to_valid = (to-passed (goal.at.walk_verdict-requires c).In_ok-check-2).proof.valid;
}

pub returns-then-not-all_yes : goal.returns-then-not-all_yes
returns-then-not-all_yes c =
    let from = (from-passed (goal.at.returns-then-not-all_yes c).In_ok-check).proof in
    let to = (to-passed (goal.at.returns-then-not-all_yes c).In_ok-check-2).proof in
    checked_verdict from to from.reads to.reads c.walk_verdict.ensures

pub returns : goal.returns
returns c =
    let from = (from-passed (goal.at.returns c).In_ok-check).proof in
    let to = (to-passed (goal.at.returns c).In_ok-check-2).proof in
    checked_verdict from to from.reads to.reads
    (scanned from.valid to.valid c.all_yes.ensures c.if-not-all_yes.false)
