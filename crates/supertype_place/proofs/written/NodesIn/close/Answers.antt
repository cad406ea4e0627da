-- `supertype_place::written::NodesIn::close` meets its contract. Assumes nothing.
use mathlib.Core.Path.{refl, ap, ap₂, ◌∙◌}
use native.Mathlib.Omega.{arith}
use lib.ListN.{length, set, length-set}
use Rattle.flat.specs.Kind as kind
use Rattle.supertype_answer.specs.Join.{node}
use Rattle.supertype_place.specs.Written.{nodes_at}
use Rattle.supertype_place.proofs.Writes.{nodes_length, nodes_set, refilled}
use Rattle.supertype_place.proofs.written.NodesIn.close.Goals as goal

pub bounds-as_mut_slice-mark : goal.bounds-as_mut_slice-mark
bounds-as_mut_slice-mark g c =
    omega (
      arith,
      nodes_length _ _ c.self.invariant,
      ap length c.self.view_is,
      c.requires,
      ap length c.as_mut_slice.ensures.value,
    )

pub offset_bounds-as_mut_slice-mark : goal.offset_bounds-as_mut_slice-mark
offset_bounds-as_mut_slice-mark g c =
    omega (
      arith,
      nodes_length _ _ c.self.invariant,
      ap length c.self.view_is,
      c.requires,
      ap length c.as_mut_slice-2.ensures.value,
      c.self.invariant,
      c.as_mut_slice-2.ensures.fits,
    )

pub bounds-as_mut_slice-mark-2 : goal.bounds-as_mut_slice-mark-2
bounds-as_mut_slice-mark-2 g c =
    omega (
      arith,
      nodes_length _ _ c.self.invariant,
      ap length c.self.view_is,
      c.requires,
      ap length c.as_mut_slice-2.ensures.value,
      c.self.invariant,
    )

pub returns : goal.returns
returns g c =
    ap₂ nodes_at (refilled _ _ _ (length-set _ _ _ ∙ ap length c.as_mut_slice.ensures.value) refl ∙ ap (λ l. set l
    c.args.mark kind.Struct) c.as_mut_slice.ensures.value)
    (refilled _ _ _ (length-set _ _ _ ∙ ap length c.as_mut_slice-2.ensures.value) refl ∙ ap (λ l. set l c.args.mark
    c.args.names) c.as_mut_slice-2.ensures.value)
    ∙ nodes_set _ _ _ _ _ ∙ ap (λ l. set l c.args.mark (node kind.Struct c.args.names)) c.self.view_is
