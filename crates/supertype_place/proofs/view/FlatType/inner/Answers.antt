-- `supertype_place::view::FlatType::inner` meets its contract. Assumes nothing.
use native.Mathlib.Omega.{arith}
use Rattle.supertype_place.proofs.Views.{type_front, type_stood, inner_front, inner_is}
use Rattle.supertype_place.proofs.view.FlatType.inner.Goals as goal

pub slice_bounds-result-count : goal.slice_bounds-result-count
slice_bounds-result-count c = let v = type_front c.args.self.stands in omega (arith, v.pos, v.kinds)

pub slice_bounds-result-start : goal.slice_bounds-result-start
slice_bounds-result-start c = let v = type_front c.args.self.stands in omega (arith, v.pos, v.kinds)

pub slice_bounds-result-count-2 : goal.slice_bounds-result-count-2
slice_bounds-result-count-2 c = let v = type_front c.args.self.stands in omega (arith, v.pos, v.args)

pub slice_bounds-result-start-2 : goal.slice_bounds-result-start-2
slice_bounds-result-start-2 c = let v = type_front c.args.self.stands in omega (arith, v.pos, v.args)

pub invariant_of-result : goal.invariant_of-result
invariant_of-result c = record { stands = type_stood (inner_front (type_front c.args.self.stands) c.requires) }

pub returns : goal.returns
returns c = inner_is (type_front c.args.self.stands) c.requires
