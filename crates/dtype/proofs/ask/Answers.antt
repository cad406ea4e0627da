-- `dtype::ask` meets its contract: a plain leaf, and any other type that was checked, are told by their kinds.
-- Assumes nothing.
use lib.Dec.{lit≤}
use Rattle.flat.proofs.Truths.{Fact, fact}
use Rattle.flat.proofs.Meaning.{Passed}
use Rattle.dtype.proofs.Answers.{some_node, plain_passed, valid_passed, answered}
use Rattle.dtype.proofs.ask.Goals as goal
use Rattle.dtype.proofs.ask.Goals.{Joined-not-is_plain, then-not-is_plain+in_ok-check, else-not-is_plain}

-- they are a type
abbrev passed : Joined-not-is_plain → Fact
passed c =
    fact {A = Passed _ _ c.args.kinds.now c.args.args.now} (
    elim c.if-not-is_plain.branch [
      | then-not-is_plain+in_ok-check w ↦ valid_passed _ _ _ _ w.check.ensures w.in_ok-check.was
      | else-not-is_plain w ↦ plain_passed _ _ _ _ (lit≤ tt) c.is_plain.ensures w.if-not-is_plain.false
    ])

pub told_by-requires : goal.told_by-requires
told_by-requires c = some_node (passed c).proof

pub returns : goal.returns
returns c = answered _ _ _ _ _ (passed (goal.at.returns c).Joined-not-is_plain).proof c.told_by.ensures
