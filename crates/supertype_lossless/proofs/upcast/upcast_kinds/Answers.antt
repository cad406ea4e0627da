-- `supertype_lossless::upcast::upcast_kinds` meets its contract. Assumes nothing.
use mathlib.Core.Bool.{true}
use Prim.Native.Nat.{max}
use native.Mathlib.Omega.{arith}
use Rattle.std.specs.Prelude.{None, Some}
use Rattle.flat.specs.Kind.{Null, UInt8, Int8, Float16, Decimal}
use Rattle.dtype.proofs.Runs.{says, of_run}
use Rattle.supertype_lossless.proofs.Upcasts.{right, rule, rule_apart, same_kind, other, other_kind}
use Rattle.supertype_lossless.proofs.upcast.upcast_kinds.Goals as goal
use Rattle.supertype_lossless.proofs.upcast.upcast_kinds.Goals.{then-this-lt7+else-this-lt2+then-this-lt7-2}
use Rattle.supertype_lossless.proofs.upcast.upcast_kinds.Goals.{else-this-lt7+then-this-lt12-2+else-this-lt2-2+else-this-lt7-3+then-this-lt12-3}
use Rattle.supertype_lossless.proofs.upcast.upcast_kinds.Goals.{else-this-lt7+else-this-lt12-2+then-this-lt15+else-this-lt12-4+then-this-lt15-2}

pub returns-then-l-r : goal.returns-then-l-r
returns-then-l-r c = same_kind _ _ c.if-l-r.true

-- two unsigned types, two signed ones or two floats
pub returns-in-2-to-6-2-to-6 : goal.returns-in-2-to-6-2-to-6
returns-in-2-to-6-2-to-6 c =
    rw c.max.ensures
    (elim c.in-2-to-6-2-to-6-1.branch [
      | then-this-lt7+else-this-lt2+then-this-lt7-2 w ↦
          rule_apart (λ l r. Some (max l r)) UInt8 5 UInt8 5 (unfold right in tt) _ _ (omega arith) (omega arith)
      | else-this-lt7+then-this-lt12-2+else-this-lt2-2+else-this-lt7-3+then-this-lt12-3 w ↦
          rule_apart (λ l r. Some (max l r)) Int8 5 Int8 5 (unfold right in tt) _ _ (omega arith) (omega arith)
      | else-this-lt7+else-this-lt12-2+then-this-lt15+else-this-lt12-4+then-this-lt15-2 w ↦
          rule_apart (λ l r. Some (max l r)) Float16 3 Float16 3 (unfold right in tt) _ _ (omega arith) (omega arith)
    ])

pub returns-in_default : goal.returns-in_default
returns-in_default c = other_kind _ _ (of_run other true Null 2 (unfold says in tt) _ (omega arith))

pub returns-in_default-2 : goal.returns-in_default-2
returns-in_default-2 c = rule (λ l r. None) UInt8 5 Null 2 (unfold right in tt) _ _ (omega arith)

pub returns-in_default-3 : goal.returns-in_default-3
returns-in_default-3 c = rule (λ l r. None) UInt8 5 Float16 244 (unfold right in tt) _ _ (omega arith)

pub returns-in_default-4 : goal.returns-in_default-4
returns-in_default-4 c = rule (λ l r. None) Int8 5 Null 2 (unfold right in tt) _ _ (omega arith)

pub returns-in_default-5 : goal.returns-in_default-5
returns-in_default-5 c = rule (λ l r. None) Int8 5 Float16 244 (unfold right in tt) _ _ (omega arith)

pub returns-in_default-6 : goal.returns-in_default-6
returns-in_default-6 c = rule (λ l r. None) Float16 3 Null 12 (unfold right in tt) _ _ (omega arith)

pub returns-in_default-7 : goal.returns-in_default-7
returns-in_default-7 c = rule (λ l r. None) Float16 3 Decimal 241 (unfold right in tt) _ _ (omega arith)

pub returns-in_default-8 : goal.returns-in_default-8
returns-in_default-8 c = other_kind _ _ (of_run other true Decimal 241 (unfold says in tt) _ (omega arith))
