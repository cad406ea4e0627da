-- `encoded::bytes::copy` meets its contract. Assumes nothing.
use native.Mathlib.Omega.{arith}
use Rattle.encoded.proofs.Laws.{copied_next, copied_all}
use Rattle.encoded.proofs.bytes.copy.Goals as goal

pub loop-i-preserved : goal.loop-i-preserved
loop-i-preserved c =
    copied_next c.loop-i.dst c.args.src.now c.loop-i.i (omega arith) (omega arith) c.loop-i.invariant

pub returns : goal.returns
returns c = copied_all _ _ (omega arith) (λ k h. c.loop-i.invariant k (omega arith))
