-- `supertype_lossless::upcast::mixed` meets its contract. Assumes nothing.
use Prim.Native.Nat.{◌+◌, max}
use native.Mathlib.Omega.{arith}
use Rattle.std.specs.Prelude.{None, Some}
use Rattle.flat.specs.Kind.{UInt8, UInt128, Int8}
use Rattle.supertype_lossless.proofs.Upcasts.{right, rule}
use Rattle.supertype_lossless.proofs.upcast.mixed.Goals as goal

pub returns-then-u-eq-UINT128 : goal.returns-then-u-eq-UINT128
returns-then-u-eq-UINT128 c = (
  rule (λ u s. None) UInt128 1 Int8 5 (unfold right in tt) _ _ (omega arith),
  rule (λ s u. None) Int8 5 UInt128 1 (unfold right in tt) _ _ (omega arith),
)

pub returns : goal.returns
returns c =
    rw c.max.ensures (
      rule (λ u s. Some (max s (u + 6))) UInt8 4 Int8 5 (unfold right in tt) _ _ (omega arith),
      rule (λ s u. Some (max s (u + 6))) Int8 5 UInt8 4 (unfold right in tt) _ _ (omega arith),
    )
