-- `supertype_arms::row::decimal_row` meets its contract. Assumes nothing.
use Rattle.std.specs.Prelude.{None, Some}
use Rattle.std.specs.Bool.{then_some}
use native.Mathlib.Omega.{arith}
use Rattle.flat.specs.Kind.{Null, Float64, Decimal, String, Binary, UnknownAny, UnknownFloat, UnknownIntPos}
use Rattle.supertype_arms.specs.declared.plan.Plan.TheVariants.{Kind, Decimals, DynDecimal}
use Rattle.supertype_arms.proofs.Areas.{right, right_apart, rule, rule_apart}
use Rattle.supertype_arms.proofs.row.decimal_row.Goals as goal

pub returns-in-16 : goal.returns-in-16
returns-in-16 c =
    rw c.string_if.ensures
    (rule (λ s a b. then_some s (Kind String)) Decimal 1 String 1 (unfold right in tt) _ _ _ (omega arith))

pub returns-in-25 : goal.returns-in-25
returns-in-25 c = rule (λ s a b. Some (Kind Float64)) Decimal 1 UnknownFloat 1 (unfold right in tt) _ _ _ (omega arith)

pub returns-in-0-to-15 : goal.returns-in-0-to-15
returns-in-0-to-15 c =
    rule_apart (λ s a b. Some Decimals) Decimal 1 Null 16 (unfold right_apart in tt) _ _ _ (omega arith) (cc)

pub returns-in-17-to-22 : goal.returns-in-17-to-22
returns-in-17-to-22 c = rule (λ s a b. None) Decimal 1 Binary 6 (unfold right in tt) _ _ _ (omega arith)

pub returns-in-23-to-24 : goal.returns-in-23-to-24
returns-in-23-to-24 c = rule (λ s a b. Some (Kind UnknownAny)) Decimal 1 UnknownAny 2 (unfold right in tt) _ _ _ (omega arith)

pub returns-in_default : goal.returns-in_default
returns-in_default c = rule (λ s a b. Some DynDecimal) Decimal 1 UnknownIntPos 2 (unfold right in tt) _ _ _ (omega arith)
