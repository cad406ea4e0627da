-- `encoded::is_plain` meets its contract: one node, or another number. Assumes nothing.
use mathlib.Core.Path.{sym, ◌∙◌}
use native.Mathlib.Omega.{arith}
use Rattle.flat.proofs.Truths.{Fact, fact}
use Rattle.encoded.proofs.Answers.{nodes_some}
use Rattle.encoded.proofs.Plain.{is_one, not_one, one_told, others_told}
use Rattle.encoded.proofs.is_plain.Goals as goal
use Rattle.encoded.proofs.is_plain.Goals.{Then-eq}

-- the bytes are as long as one node takes
abbrev one : Then-eq → Fact
one c = fact (nodes_some (is_one _ (sym c.if-eq.ensures) ∙ c.node_count.ensures))

pub bounds-encoded-2 : goal.bounds-encoded-2
bounds-encoded-2 c = omega (arith, (one (goal.at.bounds-encoded-2 c).Then-eq).proof.size)

pub word-requires : goal.word-requires
word-requires c = omega (arith, (one (goal.at.word-requires c).Then-eq).proof.size)

pub returns-then-eq : goal.returns-then-eq
returns-then-eq c =
    rw (c.is_plain.ensures, c.word.ensures) (one_told (one (goal.at.returns-then-eq c).Then-eq).proof)

pub returns-else-eq : goal.returns-else-eq
returns-else-eq c =
    c.if-eq.false ∙ others_told _ _ _ (not_one _ (rw (c.node_count.ensures, c.if-eq.false) at c.eq.ensures))
