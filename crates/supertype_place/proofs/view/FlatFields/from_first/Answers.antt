-- `supertype_place::view::FlatFields::from_first` meets its contract. Assumes nothing.
use native.Mathlib.Omega.{arith}
use Rattle.supertype_place.proofs.Finds.{from_found, from_past, from_none}
use Rattle.supertype_place.proofs.view.FlatFields.from_first.Goals as goal

pub returns-then-field-name : goal.returns-then-field-name
returns-then-field-name c =
    from_found _ _ _ _ _ _ c.loop-field.invariant c.in-Some.ensures.fields c.if-field-name.true

pub loop-field-preserved : goal.loop-field-preserved
loop-field-preserved c =
    from_past _ _ _ _ _ _ c.loop-field.invariant
    c.behind-rest.ensures.fields c.if-field-name.false

pub loop-field-smaller : goal.loop-field-smaller
loop-field-smaller c = omega (arith, c.behind-rest.ensures.left)

pub returns : goal.returns
returns c = from_none _ _ _ c.loop-field.invariant c.in_default.ensures.0
