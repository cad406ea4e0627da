-- `dtype::scan::any` meets its contract: what was found is what the kinds so far say. Assumes nothing.
use mathlib.Core.Path.{◌≡◌}
use mathlib.Core.Bool.{Bool}
use Prim.Native.Nat.{ℕ}
use lib.ListN.{take}
use Rattle.std.specs.List.{list_any}
use Rattle.dtype.specs.Scan.{Tests}
use Rattle.dtype.proofs.scan.any.Given as goal

abbrev pub invariant-loop-k : goal.invariant-loop-k
invariant-loop-k g l = (p : ℕ → Bool) → Tests (goal.F-post g l.holds) p → l.found ≡ list_any p (take l.k-index l.kinds)
