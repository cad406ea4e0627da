-- `encoded::put` meets its contract: three parts written one after the other. Assumes nothing.
use borrow.Author.Tests.{le-leb}
use Rattle.std.proofs.Common.{rules}
use mathlib.Core.Path.{◌∙◌}
use Rattle.encoded.proofs.Laws.{le_bytes, args_filled, put_parts}
use Rattle.encoded.proofs.put.Goals as goal

pub returns : goal.returns
returns c =
    let fits = le-leb _ _ c.if-out-size.false in
    let head = c.copy_from_slice.ensures.after ∙ c.to_le_bytes.ensures ∙ le_bytes 2 _ in
    let all = put_parts _ _ c.args.out.now c.requires.0 head c.copy.ensures (args_filled _ _ (search rules) c.write_args.ensures) in
    record { answers = rw fits; bytes = rw fits all }
