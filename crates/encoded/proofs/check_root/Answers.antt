-- `encoded::check_root` meets its contract: one plain leaf is its own root. Assumes nothing.
use native.Mathlib.Omega.{arith}
use mathlib.Core.Path.{sym}
use Rattle.flat.proofs.Truths.{Fact, fact}
use Rattle.encoded.proofs.Plain.{plain_bytes, plain_root}
use Rattle.encoded.proofs.check_root.Goals as goal
use Rattle.encoded.proofs.check_root.Goals.{Then-is_plain}

-- the bytes are one plain leaf
abbrev plain : Then-is_plain → Fact
plain c = fact (plain_bytes (sym c.if-is_plain.ensures))

pub returns-then-is_plain : goal.returns-then-is_plain
returns-then-is_plain c = plain_root _ (plain (goal.at.returns-then-is_plain c).Then-is_plain).proof

pub bounds-encoded-2 : goal.bounds-encoded-2
bounds-encoded-2 c = omega (arith, (plain (goal.at.bounds-encoded-2 c).Then-is_plain).proof.long)
