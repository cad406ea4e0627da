-- `encoded::bytes::word` meets its contract: the number of the first 8 bytes from there. Assumes nothing.
use mathlib.Core.Path.{◌∙◌}
use borrow.Author.Rules.{part_to_end}
use Rattle.encoded.proofs.Laws.{word_number}
use Rattle.encoded.proofs.bytes.word.Goals as goal

pub returns : goal.returns
returns c =
    let first = rw part_to_end at (rw c.unwrap.ensures at c.first_chunk.ensures.cases).same in
    c.from_le_bytes.ensures ∙ word_number c.args.s.now c.args.at c.requires first
