-- `encoded_dtype::to_physical` meets its contract: one plain leaf, then any bytes. Assumes nothing.
use native.Mathlib.Omega.{arith}
use mathlib.Core.Path.{sym}
use borrow.Author.Rules.{part_to_end}
use Rattle.flat.proofs.Truths.{Fact, fact}
use Rattle.encoded.proofs.Plain.{plain_bytes}
use Rattle.encoded_dtype.proofs.Forms.{form_physical, plain_reads, plain_physical}
use Rattle.encoded_dtype.proofs.to_physical.Goals as goal
use Rattle.encoded_dtype.proofs.to_physical.Goals.{Then-is_plain}

abbrev plain : Then-is_plain → Fact
plain c = fact (plain_bytes (sym c.if-is_plain.ensures))

pub returns-then-is_plain : goal.returns-then-is_plain
returns-then-is_plain c =
    let p = (plain (goal.at.returns-then-is_plain c).Then-is_plain).proof in
    rw (plain_physical (plain_reads _ p)) c.put_plain.ensures

pub returns : goal.returns
returns c = rw (← form_physical) (rw part_to_end at c.form_of.ensures)

pub bounds-encoded-2 : goal.bounds-encoded-2
bounds-encoded-2 c = omega (arith, (plain (goal.at.bounds-encoded-2 c).Then-is_plain).proof.long)
