-- `supertype_arms::row::string_row` meets its contract. Assumes nothing.
use Rattle.std.specs.Prelude.{Some}
use Rattle.std.specs.Bool.{then_some}
use native.Mathlib.Omega.{arith}
use Rattle.flat.specs.Kind.{String, Binary, BinaryOffset, Date, UnknownAny, UnknownStr, UnknownFloat}
use Rattle.supertype_arms.specs.declared.plan.Plan.TheVariants.{Left, Kind}
use Rattle.supertype_arms.proofs.Areas.{right, right_apart, rule, rule_apart}
use Rattle.supertype_arms.proofs.row.string_row.Goals as goal

pub returns-in-18 : goal.returns-in-18
returns-in-18 c = rule (λ s a b. Some (Kind String)) String 1 BinaryOffset 1 (unfold right in tt) _ _ _ (omega arith)

pub returns-in-23 : goal.returns-in-23
returns-in-23 c = rule (λ s a b. Some (Kind UnknownAny)) String 1 UnknownAny 1 (unfold right in tt) _ _ _ (omega arith)

pub returns-in-24 : goal.returns-in-24
returns-in-24 c = rule (λ s a b. Some Left) String 1 UnknownStr 1 (unfold right in tt) _ _ _ (omega arith)

pub returns-in-0-to-17 : goal.returns-in-0-to-17
returns-in-0-to-17 c =
    rule_apart (λ s a b. Some (Kind Binary)) String 1 String 2 (unfold right_apart in tt) _ _ _ (omega arith) (cc)

pub returns-in-19-to-22 : goal.returns-in-19-to-22
returns-in-19-to-22 c =
    rw c.string_if.ensures
    (rule (λ s a b. then_some s (Kind String)) String 1 Date 4 (unfold right in tt) _ _ _ (omega arith))

pub returns-in_default : goal.returns-in_default
returns-in_default c =
    rw c.then_some.ensures
    (rule (λ s a b. then_some s Left) String 1 UnknownFloat 3 (unfold right in tt) _ _ _ (omega arith))
