-- `supertype_arms::number::timed` meets its contract. Assumes nothing.
use native.Mathlib.Decide.{dec_lt}
use Rattle.std.specs.Prelude.{None, Some}
use native.Mathlib.Omega.{arith}
use Rattle.flat.specs.Kind.{Boolean, UInt32, UInt128, Int32, Int64, Int128, Float16, Float32, Float64, Date, Datetime, Time}
use Rattle.supertype_arms.specs.declared.plan.Plan.TheVariants.{Kind}
use Rattle.supertype_arms.proofs.Areas.{right, rule}
use Rattle.supertype_arms.proofs.number.timed.Goals as goal

pub returns-in-9-eq19 : goal.returns-in-9-eq19
returns-in-9-eq19 c s = rule (λ s a b. Some (Kind Int32)) Int32 1 Date 1 (unfold right in tt) s _ _ (omega arith)

pub returns-in-4-to-5-19-to-21 : goal.returns-in-4-to-5-19-to-21
returns-in-4-to-5-19-to-21 c s = rule (λ s a b. Some (Kind Int64)) UInt32 2 Date 3 (unfold right in tt) s _ _ (omega arith)

pub returns-in-12-to-13-eq19 : goal.returns-in-12-to-13-eq19
returns-in-12-to-13-eq19 c s = rule (λ s a b. Some (Kind Float32)) Float16 2 Date 1 (unfold right in tt) s _ _ (omega arith)

pub returns-in_default : goal.returns-in_default
returns-in_default c s = rule (λ s a b. None) Boolean 3 Date 4 (unfold right in tt) s _ _ (omega arith)

pub returns-in_default-3 : goal.returns-in_default-3
returns-in_default-3 c s = rule (λ s a b. None) UInt32 2 Time 1 (unfold right in tt) s _ _ (omega arith)

pub returns-in_default-4 : goal.returns-in_default-4
returns-in_default-4 c s =
    elim (dec_lt c.args.a Int32) [
      | yes h ↦ rule (λ s a b. None) UInt128 3 Date 4 (unfold right in tt) s _ _ (omega arith)
      | no h ↦ rule (λ s a b. None) Int128 1 Date 4 (unfold right in tt) s _ _ (omega arith)
    ]

pub returns-in-12-to-14-default : goal.returns-in-12-to-14-default
returns-in-12-to-14-default c s = rule (λ s a b. Some (Kind Float64)) Float64 1 Date 4 (unfold right in tt) s _ _ (omega arith)

pub returns-in-12-to-14-default-2 : goal.returns-in-12-to-14-default-2
returns-in-12-to-14-default-2 c s =
    rule (λ s a b. Some (Kind Float64)) Float16 2 Datetime 3 (unfold right in tt) s _ _ (omega arith)

pub returns-in-9-to-10-default : goal.returns-in-9-to-10-default
returns-in-9-to-10-default c s = rule (λ s a b. Some (Kind Int64)) Int32 1 Datetime 3 (unfold right in tt) s _ _ (omega arith)

pub returns-in-9-to-10-default-2 : goal.returns-in-9-to-10-default-2
returns-in-9-to-10-default-2 c s = rule (λ s a b. Some (Kind Int64)) Int64 1 Date 4 (unfold right in tt) s _ _ (omega arith)
