-- `supertype_place::view::FlatType::fields` meets its contract. Assumes nothing.
use native.Mathlib.Omega.{arith}
use Rattle.supertype_place.proofs.Views.{type_front, run_stood, struct_front, struct_is}
use Rattle.supertype_place.proofs.view.FlatType.fields.Goals as goal

pub slice_bounds-result-count : goal.slice_bounds-result-count
slice_bounds-result-count c = let v = type_front c.args.self.stands in omega (arith, v.pos, v.kinds)

pub slice_bounds-result-start : goal.slice_bounds-result-start
slice_bounds-result-start c = let v = type_front c.args.self.stands in omega (arith, v.pos, v.kinds)

pub slice_bounds-result-count-2 : goal.slice_bounds-result-count-2
slice_bounds-result-count-2 c = let v = type_front c.args.self.stands in omega (arith, v.pos, v.args)

pub slice_bounds-result-start-2 : goal.slice_bounds-result-start-2
slice_bounds-result-start-2 c = let v = type_front c.args.self.stands in omega (arith, v.pos, v.args)

pub bounds-self-0 : goal.bounds-self-0
bounds-self-0 c = let v = type_front c.args.self.stands in omega (arith, v.pos, v.args)

pub invariant_of-result : goal.invariant_of-result
invariant_of-result c = record { stand = run_stood (struct_front (type_front c.args.self.stands) c.requires) }

pub returns : goal.returns
returns c = struct_is (type_front c.args.self.stands) c.requires
