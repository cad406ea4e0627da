-- `supertype_arms::number::numeric` meets its contract. Assumes nothing.
use Rattle.std.specs.Prelude.{Some}
use native.Mathlib.Omega.{arith}
use Rattle.flat.specs.Kind.{Boolean, Int8}
use Rattle.supertype_arms.specs.declared.plan.Plan.TheVariants.{Kind}
use Rattle.supertype_arms.proofs.Areas.{right, right_apart, rule, rule_apart}
use Rattle.supertype_arms.proofs.number.numeric.Goals as goal

pub returns-in_default : goal.returns-in_default
returns-in_default c s =
    rule_apart (λ s a b. Some (Kind b)) Boolean 6 Boolean 6 (unfold right_apart in tt) s _ _ (omega arith) (cc)

pub returns-in_default-2 : goal.returns-in_default-2
returns-in_default-2 c s = rule (λ s a b. Some (Kind b)) Boolean 1 Int8 5 (unfold right in tt) s _ _ (omega arith)

pub returns-in_default-3 : goal.returns-in_default-3
returns-in_default-3 c s =
    rule_apart (λ s a b. Some (Kind b)) Int8 5 Int8 5 (unfold right_apart in tt) s _ _ (omega arith) (cc)
