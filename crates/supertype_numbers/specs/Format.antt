-- The float formats of IEEE 754-2019 and the numbers that each has. Assumes nothing: these are definitions.
use Rattle.std.specs.Prelude.{◌≡◌, cond, ℕ, suc, ◌+◌, ◌-◌, ◌*◌, ◌^◌, ◌≤◌, ◌<◌, eqb, ℤ, pos, negsuc, neg_ℤ, ◌≤ℤ◌}
use Rattle.std.specs.Prelude.{Option, None, Some}
use Rattle.flat.specs.Kind

-- a binary format: the bits of its significand, and its largest exponent
pub record Format : Type 0 where
  pub precision : ℕ
  pub emax : ℕ

abbrev pub format : ℕ → ℕ → Format
format p e = record { precision = p; emax = e }

-- the three formats of table 3.5 that the float types have
abbrev pub binary16 : Format
binary16 = format 11 15

abbrev pub binary32 : Format
binary32 = format 24 127

abbrev pub binary64 : Format
binary64 = format 53 1023

-- the format of a float type
unfoldable pub format_of : ℕ → Option Format
format_of k =
    cond (eqb k Kind.Float16) (Some binary16)
    (cond (eqb k Kind.Float32) (Some binary32)
    (cond (eqb k Kind.Float64) (Some binary64)
    None))

-- m × 2 ^ q, with either sign, is a finite number of the format (section 3.3): q runs from emin − (p − 1) to
-- emax − (p − 1), where emin is 1 − emax
pub record Finite (f : Format) (m : ℕ) (q : ℤ) : Type 0 where
  pub significand : m < 2 ^ f.precision
  pub least : neg_ℤ (pos (f.emax + f.precision - 2)) ≤ℤ q
  pub most : q ≤ℤ pos (f.emax + 1 - f.precision)

-- every finite number of the format g is one of the format f
abbrev pub FormatIncludes : Format → Format → Type 0
FormatIncludes f g = (m : ℕ) (q : ℤ) → Finite g m q → Finite f m q

-- a whole number without its sign
abbrev pub magnitude : ℤ → ℕ
magnitude (pos n) = n
magnitude (negsuc n) = suc n

-- the whole number z is a number of the format (a whole m × 2 ^ q with q below 0 is m / 2 ^ -q × 2 ^ 0, so that q need
-- not be below 0)
pub record WholeIn (f : Format) (z : ℤ) : Type 0 where
  pub m : ℕ
  pub q : ℕ
  pub finite : Finite f m (pos q)
  pub is : magnitude z ≡ m * 2 ^ q

-- the kind has an interchange format of k bits (section 3.6): one for the sign, w for the exponent, and p − 1 for the
-- significand, whose first bit is not stored; the largest exponent is that of w bits
pub record Interchange (kind k w : ℕ) : Type 0 where
  pub its : Format
  pub is : format_of kind ≡ Some its
  pub bits : k ≡ 1 + w + (its.precision - 1)
  pub most : its.emax ≡ 2 ^ (w - 1) - 1

-- n is the largest whole number of the format
pub record Largest (f : Format) (n : ℕ) : Type 0 where
  pub has : WholeIn f (pos n)
  pub no_larger : (z : ℤ) → WholeIn f z → magnitude z ≤ n

-- What the formats are, proved in proofs/Formats.antt.
pub record FormatLaws : Type 0 where
  -- k stands in the names of the types, and w in table 3.5
  pub float16 : Interchange Kind.Float16 16 5
  pub float32 : Interchange Kind.Float32 32 8
  pub float64 : Interchange Kind.Float64 64 11
  -- the largest number of a format determines its precision and its exponent; that of binary16 is
  -- 65504 = (2 ^ 11 − 1) × 2 ^ 5
  pub largest16 : Largest float16.its 65504
