-- Which whole numbers a Decimal could hold, and how many digits the integer types need. Assumes nothing: these are
-- definitions, and statements that are proved in proofs/Digits.antt.
use Rattle.std.specs.Prelude.{◌≡◌, Bool, [], ◌∷◌, ◌↔◌, ℕ, ◌-◌, ◌*◌, ◌^◌, ◌≤◌, ◌<◌, T, leb, ltb, ℤ, pos, get_or, ◌≤ℤ◌}
use Rattle.supertype_numbers.specs.Integer.{in_range, max_in, max_of}
use Rattle.supertype_numbers.specs.Range.{Listed, Holds}
use Rattle.supertype_numbers.specs.Format.{magnitude}

-- `i128_to_dec128(v, prec, scale).is_some()`, by its public meaning: v × 10 ^ scale has at most prec digits
unfoldable pub fits_dec128 : ℕ → ℕ → ℕ → Bool
fits_dec128 v prec scale = ltb (v * 10 ^ scale) (10 ^ prec)

-- a column of the type Decimal(prec, scale) could hold the whole number z
abbrev pub DecimalHolds : ℕ → ℕ → ℤ → Type 0
DecimalHolds prec scale z = T (fits_dec128 (magnitude z) prec scale)

-- n is written with d decimal digits: so many are enough, and one less is not
pub record Digits (n d : ℕ) : Type 0 where
  pub enough : n < 10 ^ d
  pub needed : 10 ^ (d - 1) ≤ n

-- document 02's digit counts: 3 for 8-bit types, 5 for 16, 10 for 32, 19 for Int64 and 20 for UInt64; the 128-bit types
-- have 39
abbrev pub digits_of : ℕ → ℕ
digits_of k = get_or (0 ∷ 0 ∷ 3 ∷ 5 ∷ 10 ∷ 20 ∷ 39 ∷ 3 ∷ 5 ∷ 10 ∷ 19 ∷ 39 ∷ []) k 0

pub record DigitLaws : Type 0 where
  -- a number of d digits fits a Decimal exactly where that has room for d digits before its point
  pub fits_when : (n d prec scale : ℕ) → Digits n d → scale ≤ prec → fits_dec128 n prec scale ≡ leb d (prec - scale)
  -- `MAX` is the largest number of a range, whatever its sign and width
  pub largest : (s : Bool) (w : ℕ)
      → T (in_range s w (pos (max_in s w))) × ((z : ℤ) → T (in_range s w z) → z ≤ℤ pos (max_in s w))
  -- document 02's counts are those of the largest numbers
  pub counts : (k : ℕ) → Listed k → Digits (max_of k) (digits_of k)
  -- and they tell which Decimals could hold every number of a type, those below 0 among them
  pub all_fit : (k prec scale : ℕ) → Listed k → scale ≤ prec
      → ((z : ℤ) → Holds k z → DecimalHolds prec scale z) ↔ (digits_of k ≤ prec - scale)
