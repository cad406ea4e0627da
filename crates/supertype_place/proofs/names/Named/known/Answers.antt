-- `supertype_place::names::Named::known` meets its contract. Assumes nothing.
use mathlib.Core.Path.{sym, ◌∙◌}
use Rattle.supertype_place.proofs.Finds.{seen_more}
use Rattle.supertype_place.proofs.Repeats.{not_before}
use Rattle.supertype_place.proofs.names.Named.known.Goals as goal

pub returns-then-has : goal.returns-then-has
returns-then-has c = c.if-has.true ∙ sym (seen_more _ _ _ (sym c.has.ensures ∙ c.if-has.true))

pub returns-else-has : goal.returns-else-has
returns-else-has c = not_before _ _ _ c.has-else-has.ensures (sym c.if-has.false ∙ c.has.ensures)
