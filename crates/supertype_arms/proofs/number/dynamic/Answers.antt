-- `supertype_arms::number::dynamic` meets its contract. Assumes nothing.
use Rattle.std.specs.Prelude.{Some}
use native.Mathlib.Omega.{arith}
use Rattle.flat.specs.Kind.{Boolean, UInt8, Int128, Float16, Float64, UnknownAny, UnknownFloat, UnknownIntPos}
use Rattle.supertype_arms.specs.declared.plan.Plan.TheVariants.{Left, Kind, DynNumber, DynBoolean}
use Rattle.supertype_arms.proofs.Areas.{right, rule}
use Rattle.supertype_arms.proofs.number.dynamic.Goals as goal
use Rattle.supertype_arms.proofs.number.dynamic.Goals.{then-this-lt11, else-this-lt11+else-this-lt12+else-this-lt15}

pub returns-in-1-eq25 : goal.returns-in-1-eq25
returns-in-1-eq25 c s =
    rule (λ s a b. Some (Kind UnknownAny)) Boolean 1 UnknownFloat 1 (unfold right in tt) s _ _ (omega arith)

pub returns-in-1-default : goal.returns-in-1-default
returns-in-1-default c s = rule (λ s a b. Some DynBoolean) Boolean 1 UnknownIntPos 2 (unfold right in tt) s _ _ (omega arith)

pub returns-in-11-default : goal.returns-in-11-default
returns-in-11-default c s =
    rule (λ s a b. Some (Kind Int128)) Int128 1 UnknownIntPos 2 (unfold right in tt) s _ _ (omega arith)

pub returns-in-12-to-14-default : goal.returns-in-12-to-14-default
returns-in-12-to-14-default c s = rule (λ s a b. Some Left) Float16 3 UnknownFloat 3 (unfold right in tt) s _ _ (omega arith)

pub returns-in_default : goal.returns-in_default
returns-in_default c s =
    elim c.if-this-lt11.branch [
      | then-this-lt11 w ↦ rule (λ s a b. Some DynNumber) UInt8 9 UnknownIntPos 2 (unfold right in tt) s _ _ (omega arith)
      | else-this-lt11+else-this-lt12+else-this-lt15 w ↦ rule (λ s a b. Some DynNumber) UInt8 9 UnknownIntPos 2 (unfold right in tt) s _ _ (omega arith)
    ]

pub returns-in_default-eq25 : goal.returns-in_default-eq25
returns-in_default-eq25 c s =
    rule (λ s a b. Some (Kind Float64)) UInt8 10 UnknownFloat 1 (unfold right in tt) s _ _ (omega arith)

pub returns-in_default-eq25-2 : goal.returns-in_default-eq25-2
returns-in_default-eq25-2 c s =
    elim c.if-this-lt11.branch [
      | then-this-lt11 w ↦ rule (λ s a b. Some (Kind Float64)) UInt8 10 UnknownFloat 1 (unfold right in tt) s _ _ (omega arith)
      | else-this-lt11+else-this-lt12+else-this-lt15 w ↦ rule (λ s a b. Some (Kind Float64)) UInt8 10 UnknownFloat 1 (unfold right in tt) s _ _ (omega arith)
    ]
