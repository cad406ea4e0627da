-- `supertype_place::names::Named::new` meets its contract. Assumes nothing.
use mathlib.Core.Path.{refl}
use native.Mathlib.Omega.{arith}
use Rattle.supertype_place.proofs.Tables.{enter_start, enter_end, enter_free, enter_taken, enter_again}
use Rattle.supertype_place.proofs.Tables.{enter_left, field_shorter, is_nothing, is_something}
use Rattle.supertype_place.proofs.Views.{type_front, run_front}
use Rattle.supertype_place.proofs.names.Named.new.Goals as goal

pub loop-field-init : goal.loop-field-init
loop-field-init c = (tt, tt, enter_start _ c.requires)

pub overflow_sub-table-then-is_none : goal.overflow_sub-table-then-is_none
overflow_sub-table-then-is_none c =
    let s = c.loop-field.invariant.2 in
    let g = c.in-Some.ensures.steps in
    let v = type_front c.in-Some.field.dtype.stands in
    omega (arith, v.pos, v.kinds, field_shorter s g)

pub overflow_cast-table : goal.overflow_cast-table
overflow_cast-table c = let v = run_front c.args.fields.stand in omega (arith, v.most)

pub loop-field-preserved-then-is_none : goal.loop-field-preserved-then-is_none
loop-field-preserved-then-is_none c =
    (tt, tt, enter_free c.loop-field.invariant.2 c.in-Some.ensures.steps (is_nothing _ c.if-is_none.ensures) refl)

pub up_to-before-requires : goal.up_to-before-requires
up_to-before-requires c = enter_left c.loop-field.invariant.2 c.in-Some.ensures.steps

pub returns-then-has-clause-distinct : goal.returns-then-has-clause-distinct
returns-then-has-clause-distinct c =
    enter_again c.loop-field.invariant.2 c.in-Some.ensures.steps c.up_to-before.ensures c.has.ensures c.if-has.true

pub loop-field-preserved : goal.loop-field-preserved
loop-field-preserved c = (
  tt,
  tt,
  enter_taken c.loop-field.invariant.2 c.in-Some.ensures.steps c.up_to-before.ensures c.has.ensures
      (is_something _ c.if-is_none.ensures) c.if-has.false,
)

pub invariant_of-result-2 : goal.invariant_of-result-2
invariant_of-result-2 c =
    record { tells = ∣ (enter_end c.loop-field.invariant.2 c.in_default.ensures.steps.none).1 ∣₁ }

pub returns-clause-distinct : goal.returns-clause-distinct
returns-clause-distinct c = (enter_end c.loop-field.invariant.2 c.in_default.ensures.steps.none).0
