-- `supertype_place::view::FlatFields::first` meets its contract. Assumes nothing.
use mathlib.Core.Path.{refl}
use native.Mathlib.Omega.{arith}
use Rattle.supertype_place.proofs.Views.{run_front, type_stood, field_front, first_field, no_field}
use Rattle.supertype_place.proofs.view.FlatFields.first.Goals as goal

pub returns-then-self-eq0 : goal.returns-then-self-eq0
returns-then-self-eq0 c = (no_field _ _ _ c.if-self-eq0.true, c.if-self-eq0.true)

pub bounds-self-0 : goal.bounds-self-0
bounds-self-0 c = let v = run_front c.args.self.stand in omega (arith, v.pos, v.args)

pub slice_bounds-result-count : goal.slice_bounds-result-count
slice_bounds-result-count c = let v = run_front c.args.self.stand in omega (arith, v.pos, v.kinds)

pub slice_bounds-result-start : goal.slice_bounds-result-start
slice_bounds-result-start c = let v = run_front c.args.self.stand in omega (arith, v.pos, v.kinds)

pub slice_bounds-result-count-2 : goal.slice_bounds-result-count-2
slice_bounds-result-count-2 c = let v = run_front c.args.self.stand in omega (arith, v.pos, v.args)

pub slice_bounds-result-start-2 : goal.slice_bounds-result-start-2
slice_bounds-result-start-2 c = let v = run_front c.args.self.stand in omega (arith, v.pos, v.args)

pub invariant_of-result : goal.invariant_of-result
invariant_of-result c =
    record { stands = type_stood (field_front (run_front c.args.self.stand) c.if-self-eq0.false) }

pub returns : goal.returns
returns c = record {
  behind = _;
  fields = first_field (run_front c.args.self.stand) c.if-self-eq0.false;
  left = c.if-self-eq0.false;
  name = refl;
  kinds = refl;
  args = refl;
}
