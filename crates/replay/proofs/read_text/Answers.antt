-- `replay::read_text` meets its contract. Assumes nothing.
use Rattle.replay.proofs.Input.{read_first}
use Rattle.replay.proofs.read_text.Goals as goal

pub returns : goal.returns
returns g c =
    read_first g.R.Read.remaining c.args.input _ c.take.result c.new-text.result.items c.read_to_end.new.buf.items
    c.take.ensures.limit c.take.ensures.inner c.new-text.ensures.items c.in_ok-read_to_end.ensures.bytes
