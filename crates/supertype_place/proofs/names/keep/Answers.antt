-- `supertype_place::names::keep` meets its contract. Assumes nothing.
use mathlib.Core.Path.{refl, sym, ◌∙◌}
use Rattle.supertype_place.proofs.names.keep.Goals as goal

pub returns-then-has : goal.returns-then-has
returns-then-has c = sym c.has.ensures ∙ c.if-has.true

pub returns : goal.returns
returns c = record { new = sym c.has.ensures ∙ c.if-has.false; name = refl; last = c.last_of.ensures }
