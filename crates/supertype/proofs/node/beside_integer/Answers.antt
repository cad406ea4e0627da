-- `supertype::node::beside_integer` meets its contract. Assumes nothing.
use mathlib.Core.Path.{◌∙◌}
use native.Mathlib.Omega.{arith}
use Rattle.supertype_arms.proofs.Decimals.{IsDecimal, within, kept, raised}
use Rattle.supertype.proofs.node.beside_integer.Goals as goal
use Rattle.supertype.proofs.node.beside_integer.Goals.{Start}

-- the Decimal that it is called with
decimal : (c : Start) → IsDecimal c.args.n
decimal c = record { kind = c.requires.0; fitting = c.requires.1 }

pub overflow_sub-parts : goal.overflow_sub-parts
overflow_sub-parts c = omega (arith, within (decimal (goal.at.overflow_sub-parts c).Start))

pub returns-then-digits-parts : goal.returns-then-digits-parts
returns-then-digits-parts c =
    kept (decimal (goal.at.returns-then-digits-parts c).Start) c.requires.2 (omega (arith, c.digits.ensures))

pub returns-else-digits-parts : goal.returns-else-digits-parts
returns-else-digits-parts c =
    c.widened.ensures
    ∙ raised (decimal (goal.at.returns-else-digits-parts c).Start) c.requires.2 (omega (arith, c.digits.ensures))
