-- `encoded::bytes::write_args` meets its contract: the first i arguments are written. Assumes nothing.
use mathlib.Core.Path.{◌≡◌}
use mathlib.Core.List.{◌++◌}
use Prim.Native.Nat.{◌*◌}
use lib.ListN.{take, drop}
use Rattle.encoded.specs.Encoding.{arg_bytes}
use Rattle.encoded.proofs.bytes.write_args.Given as goal

abbrev pub invariant-loop-i : goal.invariant-loop-i
invariant-loop-i l = l.out ≡ arg_bytes 8 (take l.i l.args) ++ drop (8 * l.i) l.fn.out
