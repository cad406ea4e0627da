-- `supertype_arms::number::mixed` meets its contract. Assumes nothing.
use Prim.Native.Nat.{◌+◌, max}
use Rattle.std.specs.Prelude.{Some}
use native.Mathlib.Omega.{arith}
use Rattle.flat.specs.Kind.{UInt8, UInt64, UInt128, Int8, Int128, Float64}
use Rattle.supertype_arms.specs.declared.plan.Plan.TheVariants.{Kind}
use Rattle.supertype_arms.proofs.Areas.{right, rule}
use Rattle.supertype_arms.proofs.number.mixed.Goals as goal

pub returns-in-2-to-4 : goal.returns-in-2-to-4
returns-in-2-to-4 c s =
    rw c.max.ensures
    (rule (λ s a b. Some (Kind (max b (a + 6)))) UInt8 3 Int8 5 (unfold right in tt) s _ _ (omega arith))

pub returns-in-5 : goal.returns-in-5
returns-in-5 c s = rule (λ s a b. Some (Kind Float64)) UInt64 1 Int8 4 (unfold right in tt) s _ _ (omega arith)

pub returns-in_default : goal.returns-in_default
returns-in_default c s = rule (λ s a b. Some (Kind Int128)) UInt64 1 Int128 1 (unfold right in tt) s _ _ (omega arith)

pub returns-in_default-3 : goal.returns-in_default-3
returns-in_default-3 c s = rule (λ s a b. Some (Kind Int128)) UInt128 1 Int8 5 (unfold right in tt) s _ _ (omega arith)
