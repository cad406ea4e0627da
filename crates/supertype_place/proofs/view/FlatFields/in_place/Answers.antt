-- `supertype_place::view::FlatFields::in_place` meets its contract. Assumes nothing.
use mathlib.Core.Path.{sym, ap, ap₂, ◌∙◌}
use native.Mathlib.Omega.{arith}
use Rattle.flat.specs.Tree.{Fields}
use Rattle.supertype_nested.specs.Step.{in_place}
use Rattle.supertype_place.specs.Viewed.{viewed_run}
use Rattle.supertype_place.proofs.Finds.{place_yes, place_no, place_end, place_over}
use Rattle.supertype_place.proofs.view.FlatFields.in_place.Goals as goal

pub returns-in_default-first : goal.returns-in_default-first
returns-in_default-first c =
    let l = viewed_run c.loop-a.l in
    sym (c.loop-a.invariant ∙ ap (in_place l) c.in_default-first.ensures.0 ∙ place_over l)

pub returns-then-a-b : goal.returns-then-a-b
returns-then-a-b c =
    sym (c.loop-a.invariant ∙ ap₂ in_place c.in-Some.ensures.fields c.in-Some-first.ensures.fields
    ∙ place_no _ _ _ _ _ _ c.if-a-b.true)

pub loop-a-preserved : goal.loop-a-preserved
loop-a-preserved c =
    c.loop-a.invariant ∙ ap₂ in_place c.behind-l.ensures.fields c.behind-r.ensures.fields
    ∙ place_yes _ _ _ _ _ _ c.if-a-b.false

pub loop-a-smaller : goal.loop-a-smaller
loop-a-smaller c = omega (arith, c.behind-l.ensures.left)

pub returns : goal.returns
returns c =
    let r = viewed_run c.loop-a.r in
    sym (c.loop-a.invariant ∙ ap (λ (fs : Fields). in_place fs r) c.in_default.ensures.0 ∙ place_end r)
