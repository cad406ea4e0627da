-- `supertype_place::written::NodesIn::extend` meets its contract. Assumes nothing.
use mathlib.Core.List.{◌++◌}
use mathlib.Core.Path.{sym, ap, ap₂, ◌∙◌}
use native.Mathlib.Omega.{arith}
use lib.Seq.{length-take-le}
use Rattle.supertype_place.specs.Written.{nodes_at}
use Rattle.supertype_place.proofs.Views.{type_front, kinds_alone, args_alone}
use Rattle.supertype_place.proofs.Writes.{type_nodes}
use Rattle.supertype_place.proofs.written.NodesIn.extend.Goals as goal

pub slice_bounds-extend_from_slices-end : goal.slice_bounds-extend_from_slices-end
slice_bounds-extend_from_slices-end g c =
    let v = type_front c.args.dtype.stands in
    sym (length-take-le _ c.args.dtype.kinds.now (omega (arith, v.kinds, c.nodes-n.ensures)))

pub slice_bounds-extend_from_slices-end-2 : goal.slice_bounds-extend_from_slices-end-2
slice_bounds-extend_from_slices-end-2 g c =
    let v = type_front c.args.dtype.stands in
    sym (length-take-le _ c.args.dtype.args.now (omega (arith, v.args, c.nodes-n.ensures)))

pub extend_from_slices-requires : goal.extend_from_slices-requires
extend_from_slices-requires g c =
    let v = type_front c.args.dtype.stands in
    let k = length-take-le c.nodes-n.result c.args.dtype.kinds.now (omega (arith, v.kinds, c.nodes-n.ensures)) in
    let a = length-take-le c.nodes-n.result c.args.dtype.args.now (omega (arith, v.args, c.nodes-n.ensures)) in
    (omega arith, (k ∙ sym a, omega (arith, k, c.nodes-n.ensures, c.requires)))

pub returns : goal.returns
returns g c =
    let v = type_front c.args.dtype.stands in
    c.extend_from_slices.ensures
    ∙ ap (λ l. c.args.self.now ++ l)
    (rw c.nodes-n.ensures (ap₂ nodes_at (kinds_alone v) (args_alone v) ∙ type_nodes _))
