-- When a float format includes another: one law over their parameters. Assumes nothing.
use mathlib.Core.Path.{refl}
use Prim.Native.Nat.{ℕ, zero, suc, ◌+◌, ◌-◌, ◌*◌, ◌^◌, ◌≤◌}
use native.Mathlib.Nat.{mul-le-mul}
use native.Mathlib.Omega.{arith}
use lib.Dec.{leb→le, le→leb}
use lib.Pow.{pow_pos, pow_mono}
use lib.IntN.{ℤ, pos, negsuc, neg_ℤ}
use lib.Signed.{◌≤ℤ◌, le_z_yes, ≤ℤ_refl}
use Rattle.supertype_numbers.specs.Format.{Format, format, binary16, binary32, binary64, format_of, FormatIncludes}
use Rattle.supertype_numbers.specs.Format.{Largest, FormatLaws}

-- from a lower number on, and up to a higher one
from_lower : (m n : ℕ) (q : ℤ) → n ≤ m → neg_ℤ (pos n) ≤ℤ q → neg_ℤ (pos m) ≤ℤ q
from_lower zero n (pos a) l h = le_z_yes (le→leb 0 a (omega arith))
from_lower (suc m) n (pos a) l h = le_z_yes tt
from_lower m zero (negsuc a) l h = absurd h.le
from_lower zero (suc n) (negsuc a) l h = absurd (omega arith)
from_lower (suc m) (suc n) (negsuc a) l h = let i : a ≤ n = leb→le a n h.le in le_z_yes (le→leb a m (omega arith))

to_higher : (m n : ℕ) (q : ℤ) → m ≤ n → q ≤ℤ pos m → q ≤ℤ pos n
to_higher m n (pos a) l h = let i : a ≤ m = leb→le a m h.le in le_z_yes (le→leb a n (omega arith))
to_higher m n (negsuc a) l h = le_z_yes tt

-- a format with as many bits that reaches as far down and as far up
pub wider_format : (f g : Format) → g.precision ≤ f.precision → g.emax + g.precision ≤ f.emax + f.precision → g.emax + 1 - g.precision ≤ f.emax + 1 - f.precision → FormatIncludes f g
wider_format f g p d u m q n = record {
  significand = let i : 2 ^ g.precision ≤ 2 ^ f.precision = pow_mono p in omega (arith, n.significand);
  least = from_lower (f.emax + f.precision - 2) (g.emax + g.precision - 2) q (omega arith) n.least;
  most = to_higher (g.emax + 1 - g.precision) (f.emax + 1 - f.precision) q u n.most;
}

-- the largest number of a format has all ones, at the largest exponent
largest : (p e : ℕ) → Largest (format p e) ((2 ^ p - 1) * 2 ^ (e + 1 - p))
largest p e = record {
  has = record {
    m = 2 ^ p - 1;
    q = e + 1 - p;
    finite = record { significand = omega (arith, pow_pos p); least = from_lower (e + p - 2) 0 (pos (e + 1 - p)) (omega arith) (le_z_yes (le→leb 0 (e + 1 - p) (omega arith))); most = ≤ℤ_refl (pos (e + 1 - p)) };
    is = refl;
  };
  no_larger = λ z w.
      let high : w.q ≤ e + 1 - p = leb→le w.q (e + 1 - p) w.finite.most.le in
      let bits : w.m ≤ 2 ^ p - 1 = omega (arith, w.finite.significand) in
      omega (arith, w.is, mul-le-mul bits (pow_mono high));
}

pub format_laws : FormatLaws
unfolding format_of
format_laws = record {
  float16 = record { its = binary16; is = refl; bits = refl; most = refl };
  float32 = record { its = binary32; is = refl; bits = refl; most = refl };
  float64 = record { its = binary64; is = refl; bits = refl; most = refl };
  largest16 = largest binary16.precision binary16.emax;
}
