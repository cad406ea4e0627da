-- `supertype_place::written::NodesIn::split_off` meets its contract. Assumes nothing.
use mathlib.Core.List.{◌++◌}
use mathlib.Core.Path.{ap, ap₂, ◌∙◌}
use native.Mathlib.Omega.{arith}
use lib.ListN.{length, drop}
use Rattle.supertype_place.specs.Written.{nodes_at}
use Rattle.supertype_place.proofs.Writes.{nodes_drop, nodes_length}
use Rattle.supertype_place.specs.View.{from}
use Rattle.flat.proofs.Positions.{rest}
use Rattle.flat.proofs.Walks.{length_from}
use Rattle.supertype_place.proofs.written.NodesIn.split_off.Goals as goal

pub slice_bounds-try_extend_from_slice-count : goal.slice_bounds-try_extend_from_slice-count
slice_bounds-try_extend_from_slice-count g c = omega (
  arith,
  nodes_length _ _ c.self.invariant,
  ap length
      c.self.view_is,
  c.requires,
  ap length c.as_slice.ensures.value,
)

pub slice_bounds-try_extend_from_slice-start : goal.slice_bounds-try_extend_from_slice-start
slice_bounds-try_extend_from_slice-start g c = omega (
  arith,
  nodes_length _ _ c.self.invariant,
  ap length
      c.self.view_is,
  c.requires,
  ap length c.as_slice.ensures.value,
)

pub offset_bounds-as_slice-mark : goal.offset_bounds-as_slice-mark
offset_bounds-as_slice-mark g c = omega (
  arith,
  nodes_length _ _ c.self.invariant,
  ap length c.self.view_is,
  c.requires,
  c.as_slice-2.ensures.fits,
  ap length c.as_slice-2.ensures.value,
  c.self.invariant,
)

pub slice_bounds-try_extend_from_slice-count-2 : goal.slice_bounds-try_extend_from_slice-count-2
slice_bounds-try_extend_from_slice-count-2 g c = omega (
  arith,
  nodes_length _ _ c.self.invariant,
  ap length
      c.self.view_is,
  c.requires,
  ap length c.as_slice-2.ensures.value,
  c.self.invariant,
)

pub slice_bounds-try_extend_from_slice-start-2 : goal.slice_bounds-try_extend_from_slice-start-2
slice_bounds-try_extend_from_slice-start-2 g c = omega (
  arith,
  nodes_length _ _ c.self.invariant,
  ap length
      c.self.view_is,
  c.requires,
  ap length c.as_slice-2.ensures.value,
  c.self.invariant,
)

pub unwrap-requires : goal.unwrap-requires
unwrap-requires g c =
    c.try_extend_from_slice.ensures.variant.1
    (omega (
      arith,
      ap length c.new-kinds.ensures,
      length_from c.args.mark c.as_slice.result.now,
      c.as_slice.ensures.fits,
    ))

pub unwrap-requires-2 : goal.unwrap-requires-2
unwrap-requires-2 g c =
    c.try_extend_from_slice-2.ensures.variant.1
    (omega (
      arith,
      ap length c.new-args.ensures,
      length_from c.args.mark c.as_slice-2.result.now,
      c.as_slice-2.ensures.fits,
    ))

pub returns-clause-rest : goal.returns-clause-rest
returns-clause-rest g c =
    let k = rw c.unwrap.ensures at c.try_extend_from_slice.ensures.ok in
    let a = rw c.unwrap-2.ensures at c.try_extend_from_slice-2.ensures.ok in
    ap₂ nodes_at
    (k ∙ ap₂ (λ e l. e ++ from c.args.mark l) c.new-kinds.ensures c.as_slice.ensures.value ∙ rest _ c.args.mark)
    (a ∙ ap₂ (λ e l. e ++ from c.args.mark l) c.new-args.ensures c.as_slice-2.ensures.value ∙ rest _ c.args.mark)
    ∙ nodes_drop c.args.mark _ _ c.self.invariant ∙ ap (drop c.args.mark) c.self.view_is
