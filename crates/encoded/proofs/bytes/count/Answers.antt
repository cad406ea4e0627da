-- `encoded::bytes::count` meets its contract: the number of the first 2 bytes. Assumes nothing.
use mathlib.Core.Path.{ap, ◌∙◌}
use borrow.Author.Tests.{le-leb}
use Rattle.std.specs.Prelude.{Some}
use Rattle.encoded.proofs.Laws.{count_number}
use Rattle.encoded.proofs.bytes.count.Goals as goal

pub returns : goal.returns
returns c =
    let first = c.in_ok-low_first.ensures.cases in
    rw (le-leb _ _ first.enough)
    (ap Some (c.from.ensures ∙ c.from_le_bytes.ensures ∙ count_number c.args.encoded.now first.enough first.same))
