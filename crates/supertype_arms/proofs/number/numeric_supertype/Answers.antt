-- `supertype_arms::number::numeric_supertype` meets its contract. Assumes nothing.
use mathlib.Core.Path.{sym}
use native.Mathlib.Omega.{arith}
use Rattle.supertype_arms.proofs.Bare.{apart_below, of_one, by_order}
use Rattle.supertype_arms.proofs.number.numeric_supertype.Goals as goal

pub returns-then-a-b : goal.returns-then-a-b
returns-then-a-b c call s = sym (of_one call s (omega arith))

pub numeric-requires : goal.numeric-requires
numeric-requires c = (apart_below (omega arith) (omega arith), omega arith, omega arith)

pub returns : goal.returns
returns c = by_order c.if-a-b.false (omega arith) (omega arith) c.min.ensures c.max.ensures c.numeric.ensures
