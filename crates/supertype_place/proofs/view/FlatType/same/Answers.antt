-- `supertype_place::view::FlatType::same` meets its contract. Assumes nothing.
use mathlib.Core.Path.{sym, ◌∙◌}
use lib.Seq.{length-take-le}
use native.Mathlib.Omega.{arith}
use Rattle.supertype_place.proofs.Views.{type_front, same_types}
use Rattle.supertype_place.proofs.view.FlatType.same.Goals as goal

pub slice_bounds-starts_with-end : goal.slice_bounds-starts_with-end
slice_bounds-starts_with-end c =
    let v = type_front c.args.other.stands in
    omega (
      arith,
      c.nodes-n.ensures,
      v.kinds,
      length-take-le c.nodes-n.result c.args.other.kinds.now (omega (
        arith,
        c.nodes-n.ensures,
        v.kinds,
      )),
    )

pub slice_bounds-starts_with-end-2 : goal.slice_bounds-starts_with-end-2
slice_bounds-starts_with-end-2 c =
    let v = type_front c.args.other.stands in
    omega (
      arith,
      c.nodes-n.ensures,
      v.args,
      length-take-le c.nodes-n.result c.args.other.args.now (omega (
        arith,
        c.nodes-n.ensures,
        v.args,
      )),
    )

pub starts_with-requires : goal.starts_with-requires
starts_with-requires c =
    let v = type_front c.args.other.stands in
    let n = c.nodes-n.ensures in (
      (type_front c.args.self.stands).even,
      length-take-le c.nodes-n.result c.args.other.kinds.now (omega (arith, n, v.kinds))
          ∙ sym (length-take-le c.nodes-n.result c.args.other.args.now (omega (arith, n, v.args))),
    )

pub returns : goal.returns
returns c =
    same_types (type_front c.args.self.stands) (type_front c.args.other.stands)
    (rw c.nodes-n.ensures at c.starts_with.ensures)
