-- `flat::scan::settled` meets its contract. Assumes nothing.
use borrow.Author.Tests.{lt-ltb, le-ltb}
use Rattle.flat.specs.Scan.{settled}
use Rattle.flat.proofs.scan.settled.Goals as goal

pub returns-then-s : goal.returns-then-s
unfolding settled
returns-then-s c = rw (lt-ltb _ _ c.if-s.true)

pub returns : goal.returns
unfolding settled
returns c = rw (le-ltb _ _ c.if-s.false)
