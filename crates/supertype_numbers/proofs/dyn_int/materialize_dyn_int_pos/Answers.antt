-- `supertype_numbers::dyn_int::materialize_dyn_int_pos` meets its contract. Assumes nothing.
use Prim.Native.Nat.{◌^◌}
use native.Mathlib.Omega.{arith}
use Rattle.supertype_numbers.proofs.DynInts.{first, dyn_int_pos, if_pos, if_neg}
use Rattle.supertype_numbers.proofs.dyn_int.materialize_dyn_int_pos.Goals as goal

pub returns-then-v-ne-UNKNOWN_INT_POS : goal.returns-then-v-ne-UNKNOWN_INT_POS
unfolding first
returns-then-v-ne-UNKNOWN_INT_POS c = if_neg dyn_int_pos 0 (2 ^ 64) _ _ _ (omega arith) (omega arith) (omega arith) tt

pub returns-then-v : goal.returns-then-v
unfolding first
returns-then-v c = if_pos dyn_int_pos 0 (2 ^ 8) _ _ _ (omega arith) (omega arith) (omega arith) tt

pub returns-then-v-2 : goal.returns-then-v-2
unfolding first
returns-then-v-2 c = if_pos dyn_int_pos (2 ^ 8) (2 ^ 16) _ _ _ (omega arith) (omega arith) (omega arith) tt

pub returns-then-v-3 : goal.returns-then-v-3
unfolding first
returns-then-v-3 c = if_pos dyn_int_pos (2 ^ 16) (2 ^ 32) _ _ _ (omega arith) (omega arith) (omega arith) tt

pub returns-else-v-3 : goal.returns-else-v-3
unfolding first
returns-else-v-3 c = if_pos dyn_int_pos (2 ^ 32) (2 ^ 64) _ _ _ (omega arith) (omega arith) (omega arith) tt
