-- `supertype_place::view::FlatFields::last_of` meets its contract. Assumes nothing.
use mathlib.Core.Path.{sym, ap, ◌∙◌}
use Rattle.supertype_nested.specs.Union.{last_or}
use Rattle.supertype_place.specs.Viewed.{viewed}
use Rattle.supertype_place.proofs.Finds.{last_yes, last_no}
use Rattle.supertype_place.proofs.view.FlatFields.last_of.Goals as goal

pub loop-field-preserved-then-field-name : goal.loop-field-preserved-then-field-name
loop-field-preserved-then-field-name c =
    c.loop-field.invariant ∙ ap (last_or c.args.name (viewed c.loop-field.last)) c.in-Some.ensures.steps.fields
    ∙ last_yes _ _ _ _ _ c.if-field-name.true

pub loop-field-preserved : goal.loop-field-preserved
loop-field-preserved c =
    c.loop-field.invariant ∙ ap (last_or c.args.name (viewed c.loop-field.last)) c.in-Some.ensures.steps.fields
    ∙ last_no _ _ _ _ _ c.if-field-name.false

pub returns : goal.returns
unfolding last_or
returns c =
    sym (c.loop-field.invariant ∙ ap (last_or c.args.name (viewed c.loop-field.last)) c.in-None.ensures.steps.none)
