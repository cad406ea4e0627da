-- `supertype_place::written::NodesIn::extend_from_slices` meets its contract. Assumes nothing.
use mathlib.Core.List.{◌++◌}
use mathlib.Core.Path.{ap, ap₂, ◌∙◌}
use native.Mathlib.Omega.{arith}
use lib.ListN.{length}
use Rattle.supertype_place.specs.Written.{nodes_at}
use Rattle.supertype_place.proofs.Writes.{nodes_append, nodes_length}
use Rattle.supertype_place.proofs.written.NodesIn.extend_from_slices.Goals as goal

pub unwrap-requires : goal.unwrap-requires
unwrap-requires g c =
    c.try_extend_from_slice.ensures.variant.1
    (omega (arith, c.requires.room, nodes_length _ _ c.self.invariant, ap length c.self.view_is))

pub unwrap-requires-2 : goal.unwrap-requires-2
unwrap-requires-2 g c =
    c.try_extend_from_slice-2.ensures.variant.1
    (omega (
      arith,
      c.requires.even,
      c.requires.room,
      nodes_length _ _ c.self.invariant,
      ap length c.self.view_is,
      c.self.invariant,
    ))

pub invariant_of-self : goal.invariant_of-self
invariant_of-self g c =
    let k = rw c.unwrap.ensures at c.try_extend_from_slice.ensures.len in
    let a = rw c.unwrap-2.ensures at c.try_extend_from_slice-2.ensures.len in
    omega (arith, k, a, c.requires.even, c.self.invariant)

pub returns : goal.returns
returns g c =
    let k = rw c.unwrap.ensures at c.try_extend_from_slice.ensures.ok in
    let a = rw c.unwrap-2.ensures at c.try_extend_from_slice-2.ensures.ok in
    ap₂ nodes_at k a ∙ nodes_append _ _ _ _ c.self.invariant
    ∙ ap (λ l. l ++ nodes_at c.args.kinds.now c.args.args.now) c.self.view_is
