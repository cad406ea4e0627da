-- `supertype_arms::number::to_float` meets its contract. Assumes nothing.
use mathlib.Core.Path.{◌≡◌}
use mathlib.Core.Logic.{inl, inr}
use Prim.Native.Nat.{max}
use Rattle.std.proofs.lemmas.Grind.{common_steps}
use Rattle.std.specs.Prelude.{Some}
use native.Mathlib.Omega.{arith}
use Rattle.flat.specs.Kind.{Boolean, UInt16, UInt32, Int8, Int16, Int32, Float16, Float32, Float64}
use Rattle.supertype_arms.specs.declared.plan.Plan.TheVariants.{Kind}
use Rattle.supertype_arms.proofs.Areas.{right, right_apart, rule, rule_apart}
use Rattle.supertype_arms.proofs.number.to_float.Goals as goal

pub returns-in-3 : goal.returns-in-3
returns-in-3 c s =
    rw c.max.ensures
    (elim c.in-3.is [
      | inl e ↦ rule (λ s a b. Some (Kind (max b Float32))) UInt16 1 Float16 3 (unfold right in tt) s _ _ (omega arith)
      | inr e ↦ rule (λ s a b. Some (Kind (max b Float32))) Int16 1 Float16 3 (unfold right in tt) s _ _ (omega arith)
    ])

pub returns-in-4-to-6 : goal.returns-in-4-to-6
returns-in-4-to-6 c s =
    let apart : (c.args.a ≡ UInt16 → ⊥) = grind (arith, common_steps) in
    rule (λ s a b. Some (Kind Float64)) UInt32 3 Float16 3 (unfold right in tt) s _ _ (omega arith)

pub returns-in-4-to-6-2 : goal.returns-in-4-to-6-2
returns-in-4-to-6-2 c s =
    let apart : (c.args.a ≡ Int16 → ⊥) = grind (arith, common_steps) in
    rule (λ s a b. Some (Kind Float64)) Int32 3 Float16 3 (unfold right in tt) s _ _ (omega arith)

pub returns-in_default : goal.returns-in_default
returns-in_default c s = rule (λ s a b. Some (Kind b)) Boolean 2 Float16 3 (unfold right in tt) s _ _ (omega arith)

pub returns-in_default-2 : goal.returns-in_default-2
returns-in_default-2 c s = rule (λ s a b. Some (Kind b)) Int8 1 Float16 3 (unfold right in tt) s _ _ (omega arith)

pub returns-in_default-3 : goal.returns-in_default-3
returns-in_default-3 c s =
    rule_apart (λ s a b. Some (Kind b)) Float16 3 Float16 3 (unfold right_apart in tt) s _ _ (omega arith) (cc)
