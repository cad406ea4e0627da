-- `supertype_numbers::dyn_int::materialize_dyn_int` meets its contract. Assumes nothing.
use Prim.Native.Nat.{◌^◌}
use native.Mathlib.Omega.{arith}
use Rattle.supertype_numbers.proofs.DynInts.{first, dyn_int_lem, if_any, if_pos, if_neg}
use Rattle.supertype_numbers.proofs.dyn_int.materialize_dyn_int.Goals as goal

pub returns-then-v : goal.returns-then-v
unfolding first
returns-then-v c = if_any dyn_int_lem 0 (2 ^ 31) _ _ _ (omega arith) (omega arith) tt tt

pub returns-then-v-2 : goal.returns-then-v-2
unfolding first
returns-then-v-2 c = if_any dyn_int_lem (2 ^ 31) (2 ^ 63) _ _ _ (omega arith) (omega arith) tt tt

pub returns-then-v-eq-UNKNOWN_INT_POS : goal.returns-then-v-eq-UNKNOWN_INT_POS
unfolding first
returns-then-v-eq-UNKNOWN_INT_POS c = if_pos dyn_int_lem (2 ^ 63) (2 ^ 64) _ _ _ (omega arith) (omega arith) (omega arith) tt

pub returns-else-v-eq-UNKNOWN_INT_POS : goal.returns-else-v-eq-UNKNOWN_INT_POS
unfolding first
returns-else-v-eq-UNKNOWN_INT_POS c = if_neg dyn_int_lem (2 ^ 63) (2 ^ 64) _ _ _ (omega arith) (omega arith) (omega arith) tt
