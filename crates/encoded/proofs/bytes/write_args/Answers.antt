-- `encoded::bytes::write_args` meets its contract: one argument after the other. Assumes nothing.
use mathlib.Core.Path.{refl, ◌∙◌}
use native.Mathlib.Omega.{arith}
use Rattle.encoded.specs.Encoding.{arg_bytes}
use Rattle.encoded.proofs.Laws.{le_bytes, args_next, args_written}
use Rattle.encoded.proofs.bytes.write_args.Goals as goal

pub loop-i-init : goal.loop-i-init
unfolding arg_bytes
loop-i-init c = refl

pub loop-i-preserved : goal.loop-i-preserved
loop-i-preserved c =
    args_next _ _ _ (omega arith) c.loop-i.invariant
    (c.copy_from_slice.ensures.after ∙ c.to_le_bytes.ensures ∙ le_bytes 8 _)

pub returns : goal.returns
returns c = args_written c.args.args.now c.args.out.now (omega arith) c.loop-i.invariant
