-- `encoded::bytes::read_args` meets its contract: each argument is the number in its own 8 bytes. Assumes nothing.
use Prim.Native.Nat.{◌/◌}
use lib.ListN.{length}
use native.Mathlib.Omega.{arith}
use Rattle.encoded.proofs.Laws.{args_read_next, args_read_all}
use Rattle.encoded.proofs.bytes.read_args.Goals as goal

pub loop-i-preserved : goal.loop-i-preserved
loop-i-preserved c =
    args_read_next c.loop-i.args c.args.src.now _ (length c.args.src.now / 8) c.loop-i.i (omega arith) (omega arith)
    (omega arith) c.loop-i.invariant (rw c.as_chunks.ensures.front at c.from_le_bytes.ensures)

pub returns : goal.returns
returns c = args_read_all _ _ _ c.loop-i.auto.args (λ k h. c.loop-i.invariant k (omega arith))
