-- What becomes of a whole number in a float format: IEEE 754's roundTiesToEven. Assumes nothing: these are definitions.
use Rattle.std.specs.Prelude.{◌≡◌, true, false, cond, ◌&&◌, ◌||◌, ℕ, zero, suc, ◌+◌, ◌-◌, ◌*◌, ◌/◌, ◌%◌, ◌^◌, ◌≤◌, ◌<◌}
use Rattle.std.specs.Prelude.{ltb, eqb, ℤ, pos, negsuc, neg_ℤ}
use Rattle.std.specs.Prelude.{Some}
use Rattle.flat.specs.Kind.{Float64}
use Rattle.supertype_numbers.specs.Range.{Holds}
use Rattle.supertype_numbers.specs.Format.{Format, binary64, format_of, magnitude, WholeIn}

-- how often n is halved until p bits hold it; n halvings are always enough
unfoldable pub halvings : ℕ → ℕ → ℕ → ℕ
halvings zero p n = 0
halvings (suc most) p n = elim (ltb n (2 ^ p)) [ true ↦ 0 | false ↦ suc (halvings most p (n / 2)) ]

-- the unit in the last of the p bits of n
unfoldable pub last_unit : ℕ → ℕ → ℕ
last_unit p n = 2 ^ halvings n p n

-- n / u to the nearest whole number, and between two to the even one
unfoldable pub nearest_quotient : ℕ → ℕ → ℕ
nearest_quotient n u = n / u + cond (ltb u (2 * (n % u)) || (eqb u (2 * (n % u)) && eqb (n / u % 2) 1)) 1 0

-- n to p bits
unfoldable pub nearest : ℕ → ℕ → ℕ
nearest p n = nearest_quotient n (last_unit p n) * last_unit p n

-- a whole number as Float64 has it; the integer types' numbers lie far below the largest of the format
unfoldable pub as_float64 : ℤ → ℤ
as_float64 (pos n) = pos (nearest binary64.precision n)
as_float64 (negsuc n) = neg_ℤ (pos (nearest binary64.precision (suc n)))

-- how far apart two whole numbers are
abbrev pub distance : ℕ → ℕ → ℕ
distance a b = (a - b) + (b - a)

-- nearest is what its name says; the numbers of p bits are m × 2 ^ q with m < 2 ^ p
pub record RoundingLaws : Type 0 where
  -- a whole number of at most p bits is kept
  pub kept : (p n : ℕ) → n < 2 ^ p → nearest p n ≡ n
  -- what n is rounded to is a number of p bits
  pub fits : (p n : ℕ) → 1 ≤ p → (m q : ℕ) × (m < 2 ^ p) × (nearest p n ≡ m * 2 ^ q)
  -- no number of p bits is nearer to n
  pub nearer : (p n m q : ℕ) → 1 ≤ p → m < 2 ^ p → distance n (nearest p n) ≤ distance n (m * 2 ^ q)
  -- where another number of p bits is as near, the last bit of what n is rounded to is 0 (one bit leaves no choice)
  pub even : (p n m q : ℕ) → 2 ≤ p → m < 2 ^ p → distance n (m * 2 ^ q) ≡ distance n (nearest p n)
      → (m * 2 ^ q ≡ nearest p n → ⊥) → (j i : ℕ) × (j < 2 ^ p) × (j % 2 ≡ 0) × (nearest p n ≡ j * 2 ^ i)
  -- by Float64's format: its whole numbers of at most p bits are kept
  pub whole : (z : ℤ) (f : Format) → format_of Float64 ≡ Some f → magnitude z < 2 ^ f.precision → as_float64 z ≡ z
  -- by Float64's format: the numbers of every integer type are rounded to numbers of it
  pub in_format : (k : ℕ) (z : ℤ) (f : Format) → format_of Float64 ≡ Some f → Holds k z → WholeIn f (as_float64 z)
