-- `supertype_arms::row::other_row` meets its contract. Assumes nothing.
use native.Mathlib.Decide.{dec_lt}
use Rattle.std.specs.Prelude.{None, Some}
use native.Mathlib.Omega.{arith}
use Rattle.flat.specs.Kind.{Binary, Date, Datetime, Duration, Time, UnknownAny}
use Rattle.supertype_arms.specs.declared.plan.Plan.TheVariants.{Right, Kind, DatetimeDuration, Datetimes, Durations}
use Rattle.supertype_arms.proofs.Areas.{right, right_apart, rule, rule_apart}
use Rattle.supertype_arms.proofs.row.other_row.Goals as goal

pub returns-in-19-eq20 : goal.returns-in-19-eq20
returns-in-19-eq20 c = rule (λ s a b. Some Right) Date 1 Datetime 1 (unfold right in tt) _ _ _ (omega arith)

pub returns-in-19-eq21 : goal.returns-in-19-eq21
returns-in-19-eq21 c = rule (λ s a b. Some (Kind Date)) Date 1 Duration 1 (unfold right in tt) _ _ _ (omega arith)

pub returns-in-20-eq20 : goal.returns-in-20-eq20
returns-in-20-eq20 c = rule (λ s a b. Some Datetimes) Datetime 1 Datetime 1 (unfold right in tt) _ _ _ (omega arith)

pub returns-in-20-eq21 : goal.returns-in-20-eq21
returns-in-20-eq21 c = rule (λ s a b. Some DatetimeDuration) Datetime 1 Duration 1 (unfold right in tt) _ _ _ (omega arith)

pub returns-in-21-eq21 : goal.returns-in-21-eq21
returns-in-21-eq21 c = rule (λ s a b. Some Durations) Duration 1 Duration 1 (unfold right in tt) _ _ _ (omega arith)

pub returns-in_default-0-to-22 : goal.returns-in_default-0-to-22
returns-in_default-0-to-22 c = rule (λ s a b. None) Date 1 Time 1 (unfold right in tt) _ _ _ (omega arith)

pub returns-in_default-0-to-22-2 : goal.returns-in_default-0-to-22-2
returns-in_default-0-to-22-2 c =
    rule_apart (λ s a b. None) Date 1 Date 1 (unfold right_apart in tt) _ _ _ (omega arith) (cc)

pub returns-in_default-0-to-22-3 : goal.returns-in_default-0-to-22-3
returns-in_default-0-to-22-3 c = rule (λ s a b. None) Datetime 1 Time 1 (unfold right in tt) _ _ _ (omega arith)

pub returns-in_default-0-to-22-5 : goal.returns-in_default-0-to-22-5
returns-in_default-0-to-22-5 c = rule (λ s a b. None) Duration 1 Time 1 (unfold right in tt) _ _ _ (omega arith)

pub returns-in_default-0-to-22-7 : goal.returns-in_default-0-to-22-7
returns-in_default-0-to-22-7 c =
    elim (dec_lt c.args.a Date) [
      | yes h ↦ rule_apart (λ s a b. None) Binary 2 Binary 6 (unfold right_apart in tt) _ _ _ (omega arith) (cc)
      | no h ↦ rule_apart (λ s a b. None) Time 1 Time 1 (unfold right_apart in tt) _ _ _ (omega arith) (cc)
    ]

pub returns-in_default : goal.returns-in_default
returns-in_default c =
    rule_apart (λ s a b. Some (Kind UnknownAny)) Binary 6 UnknownAny 5 (unfold right_apart in tt) _ _ _ (omega arith) (cc)

pub returns-in_default-2 : goal.returns-in_default-2
returns-in_default-2 c =
    rule_apart (λ s a b. Some (Kind UnknownAny)) Binary 6 UnknownAny 5 (unfold right_apart in tt) _ _ _ (omega arith) (cc)

pub returns-in_default-3 : goal.returns-in_default-3
returns-in_default-3 c =
    rule_apart (λ s a b. Some (Kind UnknownAny)) Binary 6 UnknownAny 5 (unfold right_apart in tt) _ _ _ (omega arith) (cc)

pub returns-in_default-4 : goal.returns-in_default-4
returns-in_default-4 c =
    rule_apart (λ s a b. Some (Kind UnknownAny)) Binary 6 UnknownAny 5 (unfold right_apart in tt) _ _ _ (omega arith) (cc)
