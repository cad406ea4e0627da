-- `encoded_dtype::materialize_unknown` meets its contract: one plain leaf, then any bytes. Assumes nothing.
use native.Mathlib.Omega.{arith}
use mathlib.Core.Path.{sym}
use borrow.Author.Rules.{part_to_end}
use Rattle.flat.proofs.Truths.{Fact, fact}
use Rattle.encoded.proofs.Plain.{plain_bytes}
use Rattle.encoded_dtype.proofs.Forms.{form_materialized, plain_reads, form_none, plain_type, refused_bytes}
use Rattle.encoded_dtype.proofs.materialize_unknown.Goals as goal
use Rattle.encoded_dtype.proofs.materialize_unknown.Goals.{Then-is_plain}

abbrev plain : Then-is_plain → Fact
plain c = fact (plain_bytes (sym c.if-is_plain.ensures))

pub returns-then-any_refused : goal.returns-then-any_refused
returns-then-any_refused c =
    let p = (plain (goal.at.returns-then-any_refused c).Then-is_plain).proof in
    rw (← form_materialized) (refused_bytes _ _ (form_none _ _ (plain_reads _ p) c.if-any_refused.ensures))

pub returns-then-is_plain : goal.returns-then-is_plain
returns-then-is_plain c =
    let p = (plain (goal.at.returns-then-is_plain c).Then-is_plain).proof in
    rw (← form_materialized, plain_type _ _ (plain_reads _ p) c.if-any_refused.ensures) c.put_plain.ensures

pub returns : goal.returns
returns c = rw (← form_materialized) (rw part_to_end at c.form_of.ensures)

pub slice_bounds-any_refused-end : goal.slice_bounds-any_refused-end
slice_bounds-any_refused-end c =
    omega (arith, (plain (goal.at.slice_bounds-any_refused-end c).Then-is_plain).proof.long)
