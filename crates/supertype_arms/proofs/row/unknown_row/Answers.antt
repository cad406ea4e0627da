-- `supertype_arms::row::unknown_row` meets its contract. Assumes nothing.
use mathlib.Core.Bool.{true, false, cond}
use Rattle.std.specs.Prelude.{Some}
use native.Mathlib.Omega.{arith}
use Rattle.flat.specs.Kind.{UnknownAny, UnknownStr, UnknownFloat}
use Rattle.supertype_arms.specs.declared.plan.Plan.TheVariants.{Left, Kind}
use Rattle.supertype_arms.proofs.Areas.{right_apart, rule_apart}
use Rattle.supertype_arms.proofs.row.unknown_row.Goals as goal

pub returns-in-24 : goal.returns-in-24
returns-in-24 c =
    rw c.if-not-to_string.true
    (rule_apart (λ s a b. cond s (Some Left) (Some (Kind UnknownAny))) UnknownStr 1 UnknownStr 4 (unfold right_apart in tt) false _ _
    (omega arith) (cc))

pub returns-in-0-to-23 : goal.returns-in-0-to-23
returns-in-0-to-23 c =
    rule_apart (λ s a b. Some (Kind UnknownAny)) UnknownAny 1 UnknownAny 5 (unfold right_apart in tt) _ _ _ (omega arith) (cc)

pub returns-in_default : goal.returns-in_default
returns-in_default c =
    rw c.if-not-to_string.false
    (rule_apart (λ s a b. cond s (Some Left) (Some (Kind UnknownAny))) UnknownStr 1 UnknownStr 4 (unfold right_apart in tt) true _ _
    (omega arith) (cc))

pub returns-in_default-2 : goal.returns-in_default-2
returns-in_default-2 c =
    rule_apart (λ s a b. Some Left) UnknownFloat 3 UnknownFloat 3 (unfold right_apart in tt) _ _ _ (omega arith) (cc)
