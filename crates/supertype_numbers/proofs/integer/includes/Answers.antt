-- `supertype_numbers::integer::includes` meets its contract. Assumes nothing.
use mathlib.Core.Path.{◌≡◌, ◌∙◌}
use Rattle.supertype_numbers.proofs.Rows.{TwoRows, signs, signs_told, bits_told, not_zero}
use Rattle.supertype_numbers.proofs.integer.includes.Goals as goal
use Rattle.supertype_numbers.proofs.integer.includes.Goals.{After-integer-b, Joined-a, then-a, else-a}

-- both rows are read
abbrev rows : After-integer-b → TwoRows
rows c =
    record { t = _; k = _; a = _; b = _; listed = c.requires; left = c.integer-a.ensures; right = c.integer-b.ensures }

signs_are : (c : Joined-a) → c.if-a.value ≡ signs c.integer-a.result c.integer-b.result
signs_are c =
    elim c.if-a.branch [
      | then-a w ↦ rw w.if-a.true (w.value-is ∙ w.if-a.true)
      | else-a w ↦ rw w.if-a.false w.value-is
    ]

pub bits-requires : goal.bits-requires
bits-requires c = not_zero c.requires.1 c.integer-b.ensures

pub bits-requires-then-not-b : goal.bits-requires-then-not-b
bits-requires-then-not-b c = not_zero c.requires.0 c.integer-a.ensures

pub returns-then-not-b : goal.returns-then-not-b
returns-then-not-b c =
    let at = goal.at.returns-then-not-b c in
    bits_told (rows at.After-integer-b) (signs_are at.Joined-a) c.if-not-b.true c.bits.ensures
    c.bits-then-not-b.ensures

pub returns-else-not-b : goal.returns-else-not-b
returns-else-not-b c =
    let at = goal.at.returns-else-not-b c in
    signs_told (rows at.After-integer-b) (signs_are at.Joined-a) c.if-not-b.false
