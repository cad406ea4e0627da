-- `supertype_place::written::NodesIn::held` meets its contract. Assumes nothing.
use mathlib.Core.Path.{ap, ap₂, ◌∙◌}
use native.Mathlib.Omega.{arith}
use lib.ListN.{length}
use Rattle.flat.specs.Walk.{type_at}
use Rattle.supertype_place.specs.View.{from}
use Rattle.supertype_place.proofs.Views.{type_stood}
use Rattle.supertype_place.proofs.Writes.{nodes_length, held_front, held_same}
use Rattle.supertype_place.proofs.written.NodesIn+ROOM.held.Goals as goal

pub slice_bounds-result-count : goal.slice_bounds-result-count
slice_bounds-result-count c = omega (
  arith,
  nodes_length _ _ c.self.invariant,
  ap length c.self.view_is,
  c.requires.within,
  ap length c.as_slice.ensures.value,
)

pub slice_bounds-result-start : goal.slice_bounds-result-start
slice_bounds-result-start c = omega (
  arith,
  nodes_length _ _ c.self.invariant,
  ap length c.self.view_is,
  c.requires.within,
  ap length c.as_slice.ensures.value,
)

pub offset_bounds-as_slice-mark : goal.offset_bounds-as_slice-mark
offset_bounds-as_slice-mark c = omega (
  arith,
  nodes_length _ _ c.self.invariant,
  ap length c.self.view_is,
  c.requires.within,
  c.as_slice-2.ensures.fits,
  ap length c.as_slice-2.ensures.value,
  c.self.invariant,
)

pub slice_bounds-result-count-2 : goal.slice_bounds-result-count-2
slice_bounds-result-count-2 c = omega (
  arith,
  nodes_length _ _ c.self.invariant,
  ap length c.self.view_is,
  c.requires.within,
  ap length c.as_slice-2.ensures.value,
  c.self.invariant,
)

pub slice_bounds-result-start-2 : goal.slice_bounds-result-start-2
slice_bounds-result-start-2 c = omega (
  arith,
  nodes_length _ _ c.self.invariant,
  ap length c.self.view_is,
  c.requires.within,
  ap length c.as_slice-2.ensures.value,
  c.self.invariant,
)

pub invariant_of-result : goal.invariant_of-result
invariant_of-result c =
    rw (c.as_slice.ensures.value, c.as_slice-2.ensures.value) record {
      stands = type_stood (held_front _ _ _ _ c.self.view_is c.self.invariant (rw c.as_slice.ensures.value at
          c.as_slice.ensures.fits) c.requires);
    }

pub returns : goal.returns
returns c =
    ap₂ (λ K A. type_at (from c.args.mark K) (from c.args.mark A)) c.as_slice.ensures.value c.as_slice-2.ensures.value
    ∙ held_same _ _ _ _ c.self.view_is c.self.invariant (rw c.as_slice.ensures.value at c.as_slice.ensures.fits)
    c.requires
