-- The ranges of the integer types over the whole numbers, by width and sign: the Rust Reference. Assumes nothing: these
-- are definitions.
use Rattle.std.specs.Prelude.{Bool, true, false, cond, ◌&&◌, List, [], ◌∷◌, ℕ, ◌-◌, ◌^◌, get_or, ℤ, pos, neg_ℤ}
use Rattle.std.specs.Int.Signed.{le_z, lt_z}
use Rattle.dtype.specs.Predicate.{is_signed_integer}

-- z is a number of the width w: with a sign from -2 ^ (w - 1) to 2 ^ (w - 1) - 1, and without one from 0 to 2 ^ w - 1
abbrev pub in_range : Bool → ℕ → ℤ → Bool
in_range true w z = le_z (neg_ℤ (pos (2 ^ (w - 1)))) z && lt_z z (pos (2 ^ (w - 1)))
in_range false w z = le_z (pos 0) z && lt_z z (pos (2 ^ w))

-- of each kind from 0 on, the width in bits: UInt8 to UInt128 are 2 to 6, Int8 to Int128 are 7 to 11
abbrev pub width_of : ℕ → ℕ
width_of k = get_or (0 ∷ 0 ∷ 8 ∷ 16 ∷ 32 ∷ 64 ∷ 128 ∷ 8 ∷ 16 ∷ 32 ∷ 64 ∷ 128 ∷ []) k 0

-- the bits beside the sign
abbrev pub bits : Bool → ℕ → ℕ
bits true w = w - 1
bits false w = w

-- those of the integer kind k
abbrev pub bits_of : ℕ → ℕ
bits_of k = bits (is_signed_integer k) (width_of k)

-- `MAX`: the largest number of the width w, and of the integer kind k
abbrev pub max_in : Bool → ℕ → ℕ
max_in s w = 2 ^ bits s w - 1

abbrev pub max_of : ℕ → ℕ
max_of k = max_in (is_signed_integer k) (width_of k)

-- a column of the integer kind k could hold z
abbrev pub holds : ℕ → ℤ → Bool
holds k z = in_range (is_signed_integer k) (width_of k) z

-- the first of the kinds whose range holds v, else the last resort
abbrev pub first_that_holds : List ℕ → ℕ → ℤ → ℕ
first_that_holds [] other v = other
first_that_holds (k ∷ ks) other v = cond (holds k v) k (first_that_holds ks other v)
