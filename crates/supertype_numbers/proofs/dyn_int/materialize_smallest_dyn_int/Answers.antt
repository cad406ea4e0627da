-- `supertype_numbers::dyn_int::materialize_smallest_dyn_int` meets its contract. Assumes nothing.
use Prim.Native.Nat.{◌^◌}
use native.Mathlib.Omega.{arith}
use Rattle.supertype_numbers.proofs.DynInts.{first, smallest_dyn_int, if_any, if_pos, if_neg}
use Rattle.supertype_numbers.proofs.dyn_int.materialize_smallest_dyn_int.Goals as goal

pub returns-then-v : goal.returns-then-v
unfolding first
returns-then-v c = if_any smallest_dyn_int 0 (2 ^ 7) _ _ _ (omega arith) (omega arith) tt tt

pub returns-then-v-2 : goal.returns-then-v-2
unfolding first
returns-then-v-2 c = if_any smallest_dyn_int (2 ^ 7) (2 ^ 15) _ _ _ (omega arith) (omega arith) tt tt

pub returns-then-v-3 : goal.returns-then-v-3
unfolding first
returns-then-v-3 c = if_any smallest_dyn_int (2 ^ 15) (2 ^ 31) _ _ _ (omega arith) (omega arith) tt tt

pub returns-then-v-4 : goal.returns-then-v-4
unfolding first
returns-then-v-4 c = if_any smallest_dyn_int (2 ^ 31) (2 ^ 63) _ _ _ (omega arith) (omega arith) tt tt

pub returns-then-v-eq-UNKNOWN_INT_POS : goal.returns-then-v-eq-UNKNOWN_INT_POS
unfolding first
returns-then-v-eq-UNKNOWN_INT_POS c = if_pos smallest_dyn_int (2 ^ 63) (2 ^ 64) _ _ _ (omega arith) (omega arith) (omega arith) tt

pub returns-else-v-eq-UNKNOWN_INT_POS : goal.returns-else-v-eq-UNKNOWN_INT_POS
unfolding first
returns-else-v-eq-UNKNOWN_INT_POS c = if_neg smallest_dyn_int (2 ^ 63) (2 ^ 64) _ _ _ (omega arith) (omega arith) (omega arith) tt
