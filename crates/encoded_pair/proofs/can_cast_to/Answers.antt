-- `encoded_pair::can_cast_to` meets its contract: two plain leaves, then any bytes. Assumes nothing.
use mathlib.Core.Path.{sym}
use native.Mathlib.Omega.{arith}
use Rattle.flat.proofs.Truths.{Fact, fact}
use Rattle.encoded.proofs.Plain.{plain_bytes}
use Rattle.encoded_pair.proofs.Asking.{plain_cast}
use Rattle.encoded_pair.proofs.can_cast_to.Goals as goal
use Rattle.encoded_pair.proofs.can_cast_to.Goals.{Then-is_plain, Then-is_plain-2}

-- both are plain leaves
abbrev left-plain : Then-is_plain → Fact
left-plain c = fact (plain_bytes (sym c.if-is_plain.ensures))

abbrev right-plain : Then-is_plain-2 → Fact
right-plain c = fact (plain_bytes (sym c.if-is_plain-2.ensures))

pub returns-then-node_yes : goal.returns-then-node_yes
returns-then-node_yes c =
    plain_cast _ (left-plain (goal.at.returns-then-node_yes c).Then-is_plain).proof
    (right-plain (goal.at.returns-then-node_yes c).Then-is_plain-2).proof (sym c.if-node_yes.ensures)

pub bounds-left-2 : goal.bounds-left-2
bounds-left-2 c = omega (arith, (left-plain (goal.at.bounds-left-2 c).Then-is_plain).proof.long)

pub bounds-right-2 : goal.bounds-right-2
bounds-right-2 c = omega (arith, (right-plain (goal.at.bounds-right-2 c).Then-is_plain-2).proof.long)
