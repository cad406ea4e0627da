-- Which whole numbers an integer type holds: one law over the sign and the width of the type. Assumes nothing.
use mathlib.Core.Path.{◌≡◌, refl, sym, ap}
use mathlib.Core.Bool.{Bool, true, false, ◌&&◌, ◌||◌}
use Prim.Native.Nat.{ℕ, zero, suc, ◌-◌, ◌^◌, ◌<◌}
use native.Mathlib.Omega.{arith}
use lib.Dec.{leb, ltb}
use lib.Pow.{pow_pos}
use lib.IntN.{ℤ, pos, negsuc, neg_ℤ}
use lib.Signed.{le_z, lt_z, mag, non_neg}
use borrow.Author.Tests.{le-leb, lt-ltb, le-ltb, leb-true, leb-false}
use Rattle.supertype_numbers.specs.Integer.{in_range, bits}

-- below n and from −n on, where n is not 0
below_pos : (n a : ℕ) → 0 < n → (le_z (neg_ℤ (pos n)) (pos a) && lt_z (pos a) (pos n)) ≡ ltb a n
below_pos zero a h = absurd (omega arith)
below_pos (suc n) a h = refl

below_neg : (n a : ℕ) → 0 < n → (le_z (neg_ℤ (pos n)) (negsuc a) && lt_z (negsuc a) (pos n)) ≡ ltb a n
below_neg zero a h = absurd (omega arith)
below_neg (suc n) a h = go (leb a n) refl
  where
    go : (b : Bool) → leb a n ≡ b → (b && true) ≡ ltb a (suc n)
    go true e = sym (lt-ltb a (suc n) (omega (arith, leb-true a n e)))
    go false e = sym (le-ltb a (suc n) (omega (arith, leb-false a n e)))

-- with a sign a and −1 − a alike, and without one no number below 0
pub is_in_range : (s : Bool) (w : ℕ) (z : ℤ) → in_range s w z ≡ ((s || non_neg z) && ltb (mag z) (2 ^ bits s w))
is_in_range true w (pos a) = below_pos (2 ^ (w - 1)) a (pow_pos (w - 1))
is_in_range true w (negsuc a) = below_neg (2 ^ (w - 1)) a (pow_pos (w - 1))
is_in_range false w (pos a) = ap (λ (b : Bool). b && ltb a (2 ^ w)) (le-leb 0 a (omega arith))
is_in_range false w (negsuc a) = refl
