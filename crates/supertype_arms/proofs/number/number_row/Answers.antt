-- `supertype_arms::number::number_row` meets its contract. Assumes nothing.
use Rattle.std.specs.Prelude.{None, Some}
use Rattle.std.specs.Bool.{then_some}
use native.Mathlib.Omega.{arith}
use Rattle.flat.specs.Kind.{Boolean, UInt8, Float16, Float64, Decimal, String, Binary, UnknownAny}
use Rattle.supertype_arms.specs.declared.plan.Plan.TheVariants.{Kind, DecimalInteger}
use Rattle.supertype_arms.proofs.Areas.{right, rule}
use Rattle.supertype_arms.proofs.number.number_row.Goals as goal

pub returns-in-0-to-1 : goal.returns-in-0-to-1
returns-in-0-to-1 c = rule (λ s a b. None) Boolean 1 Decimal 1 (unfold right in tt) _ _ _ (omega arith)

pub returns-in-2-to-11 : goal.returns-in-2-to-11
returns-in-2-to-11 c = rule (λ s a b. Some DecimalInteger) UInt8 10 Decimal 1 (unfold right in tt) _ _ _ (omega arith)

pub returns-in_default-a : goal.returns-in_default-a
returns-in_default-a c = rule (λ s a b. Some (Kind Float64)) Float16 3 Decimal 1 (unfold right in tt) _ _ _ (omega arith)

pub returns-in-16 : goal.returns-in-16
returns-in-16 c =
    rw c.string_if.ensures
    (rule (λ s a b. then_some s (Kind String)) Boolean 14 String 1 (unfold right in tt) _ _ _ (omega arith))

pub returns-in-0-to-14 : goal.returns-in-0-to-14
returns-in-0-to-14 c = c.numeric.ensures _

pub returns-in-17-to-18 : goal.returns-in-17-to-18
returns-in-17-to-18 c = rule (λ s a b. None) Boolean 14 Binary 2 (unfold right in tt) _ _ _ (omega arith)

pub returns-in-19-to-22 : goal.returns-in-19-to-22
returns-in-19-to-22 c = c.timed.ensures _

pub returns-in-23-to-24 : goal.returns-in-23-to-24
returns-in-23-to-24 c = rule (λ s a b. Some (Kind UnknownAny)) Boolean 14 UnknownAny 2 (unfold right in tt) _ _ _ (omega arith)

pub returns-in_default : goal.returns-in_default
returns-in_default c = c.dynamic.ensures _
