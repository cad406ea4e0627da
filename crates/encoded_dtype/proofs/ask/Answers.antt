-- `encoded_dtype::ask` meets its contract: one plain leaf is a type of one kind. Assumes nothing.
use native.Mathlib.Omega.{arith}
use mathlib.Core.Path.{sym}
use Rattle.flat.proofs.Truths.{Fact, fact}
use Rattle.encoded.proofs.Answers.{kinds_part}
use Rattle.encoded.proofs.Plain.{plain_bytes}
use Rattle.encoded_dtype.proofs.Asking.{plain_node, asked}
use Rattle.encoded_dtype.proofs.ask.Goals as goal
use Rattle.encoded_dtype.proofs.ask.Goals.{Then-is_plain}

abbrev plain : Then-is_plain → Fact
plain c = fact (plain_bytes (sym c.if-is_plain.ensures))

pub returns-then-is_plain : goal.returns-then-is_plain
returns-then-is_plain c =
    let p = (plain (goal.at.returns-then-is_plain c).Then-is_plain).proof in
    asked (plain_node _ p) (kinds_part p.sized) c.args.p c.told_by.ensures

pub slice_bounds-told_by-end : goal.slice_bounds-told_by-end
slice_bounds-told_by-end c = omega (arith, (plain (goal.at.slice_bounds-told_by-end c).Then-is_plain).proof.long)
