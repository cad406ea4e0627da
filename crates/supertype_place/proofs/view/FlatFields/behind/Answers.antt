-- `supertype_place::view::FlatFields::behind` meets its contract. Assumes nothing.
use mathlib.Core.Path.{ap}
use native.Mathlib.Omega.{arith}
use Prim.Native.Nat.{ℕ}
use Rattle.supertype_place.specs.View.{from}
use Rattle.supertype_place.proofs.Finds.{behind_stands, fields_behind}
use Rattle.supertype_place.proofs.Views.{type_front}
use Rattle.supertype_place.proofs.view.FlatFields.behind.Goals as goal

pub slice_bounds-result-count : goal.slice_bounds-result-count
slice_bounds-result-count c =
    let w = type_front c.args.first.dtype.stands in
    omega (arith, c.nodes-n.ensures, w.kinds)

pub slice_bounds-result-start : goal.slice_bounds-result-start
slice_bounds-result-start c =
    let w = type_front c.args.first.dtype.stands in
    omega (arith, c.nodes-n.ensures, w.kinds)

pub offset_bounds-first-n : goal.offset_bounds-first-n
offset_bounds-first-n c =
    let w = type_front c.args.first.dtype.stands in
    omega (arith, c.nodes-n.ensures, w.kinds, w.most)

pub slice_bounds-result-count-2 : goal.slice_bounds-result-count-2
slice_bounds-result-count-2 c =
    let w = type_front c.args.first.dtype.stands in
    omega (arith, c.nodes-n.ensures, w.args)

pub slice_bounds-result-start-2 : goal.slice_bounds-result-start-2
slice_bounds-result-start-2 c =
    let w = type_front c.args.first.dtype.stands in
    omega (arith, c.nodes-n.ensures, w.args)

pub invariant_of-result : goal.invariant_of-result
invariant_of-result c = record { stand = behind_stands c.requires c.nodes-n.ensures }

pub returns : goal.returns
returns c =
    let e = c.requires in
    record {
      fields = fields_behind e c.nodes-n.ensures;
      left = omega (arith, e.left);
      name = e.name;
      kinds = e.kinds;
      args = e.args;
      kinds_behind = ap (λ (n : ℕ). from n c.args.first.dtype.kinds.now) c.nodes-n.ensures;
      args_behind = ap (λ (n : ℕ). from n c.args.first.dtype.args.now) c.nodes-n.ensures;
    }
