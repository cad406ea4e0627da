-- `encoded::bytes::read_args` meets its contract: the first i arguments are read. Assumes nothing.
use mathlib.Core.Path.{◌≡◌}
use Prim.Native.Nat.{ℕ, ◌*◌, ◌<◌}
use lib.ListN.{get_or, take, drop}
use Rattle.encoded.specs.Encoding.{number}
use Rattle.encoded.proofs.bytes.read_args.Given as goal

abbrev pub invariant-loop-i : goal.invariant-loop-i
invariant-loop-i l = (k : ℕ) → k < l.i → get_or l.args k 0 ≡ number (take 8 (drop (8 * k) l.src))
