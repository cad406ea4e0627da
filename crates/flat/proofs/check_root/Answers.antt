-- `flat::check_root` meets its contract: one plain leaf, then any type. Assumes nothing.
use mathlib.Core.Path.{sym, ap, ◌∙◌}
use native.Mathlib.Omega.{arith}
use lib.Dec.{lit≤}
use lib.ListN.{length}
use Rattle.flat.proofs.Truths.{Fact, fact}
use Rattle.flat.proofs.Plain.{plain_type}
use Rattle.flat.proofs.Roots.{plain_root}
use Rattle.flat.proofs.check_root.Goals as goal
use Rattle.flat.proofs.check_root.Goals.{Then-is_plain}

-- the arrays are one plain leaf
abbrev plain : Then-is_plain → Fact
plain c = fact (sym c.is_plain.ensures ∙ c.if-is_plain.true)

pub bounds-kinds-0 : goal.bounds-kinds-0
bounds-kinds-0 c =
    omega (arith, ap length (plain_type 1 0 _ _ (lit≤ tt) (plain (goal.at.bounds-kinds-0 c).Then-is_plain).proof).kinds)

pub returns-then-is_plain : goal.returns-then-is_plain
returns-then-is_plain c =
    plain_root (plain_type _ _ _ _ (lit≤ tt) (plain (goal.at.returns-then-is_plain c).Then-is_plain).proof)
