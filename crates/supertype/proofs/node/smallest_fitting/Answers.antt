-- `supertype::node::smallest_fitting` meets its contract. Assumes nothing.
use mathlib.Core.Path.{◌∙◌}
use mathlib.Core.Logic.{inl, inr}
use native.Mathlib.Omega.{arith}
use Rattle.supertype.proofs.Numbers.{of_unsigned, of_negative, of_signed, smallest}
use Rattle.supertype.proofs.node.smallest_fitting.Goals as goal

pub returns-then-v-eq-UNKNOWN_INT_POS : goal.returns-then-v-eq-UNKNOWN_INT_POS
returns-then-v-eq-UNKNOWN_INT_POS c =
    smallest _ _ _ (c.materialize_dyn_int_pos.ensures ∙ of_unsigned _ _ _ (omega arith) (omega arith) (omega arith))

pub returns : goal.returns
returns c =
    smallest _ _ _
    (c.materialize_smallest_dyn_int.ensures
    ∙ elim c.else-dt-le-UINT128.either [
      | inl h ↦ of_negative _ _ _ h.1
      | inr h ↦ of_signed _ _ _ h (omega arith)
    ])
