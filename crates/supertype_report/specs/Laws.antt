-- What the two rules do to whole numbers, each law over all pairs of integer types, or of a Decimal and an integer
-- type, and both flags. Assumes nothing: these are definitions.
use Rattle.std.specs.Prelude.{Some}
use Rattle.std.specs.Prelude.{◌≡◌, ◌↔◌, Bool, true, false, ◌&&◌, ◌||◌, List, [], ◌∷◌, ℕ, ◌-◌, ◌≤◌, ◌<◌, eqb, ℤ, pos}
use Rattle.flat.specs.Kind.{UInt64, UInt128, Int8, Int16, Int32, Int64, Int128, Float64, Decimal}
use Rattle.flat.specs.Argument.{dec128_max_prec}
use Rattle.dtype.specs.Match.{among}
use Rattle.dtype.specs.Predicate.{is_signed_integer}
use Rattle.flat.specs.declared.Node.{Node}
use Rattle.supertype_answer.specs.Join.{node}
use Rattle.supertype_numbers.specs.Integer.{max_of}
use Rattle.supertype_numbers.specs.Range.{Listed, Holds, Includes}
use Rattle.supertype_numbers.specs.Decimal.{DecimalHolds, digits_of}
use Rattle.supertype_lossless.specs.Lossless.{upcast_of}
use Rattle.supertype_arms.specs.Node.{precision, scale, fits}
use Rattle.supertype_arms.specs.Supertype.{supertype}
use Rattle.supertype_report.specs.Rounding.{as_float64}

-- one is UInt128, the other signed
unfoldable pub uint128_with_signed : ℕ → ℕ → Bool
uint128_with_signed a b = (eqb a UInt128 && is_signed_integer b) || (is_signed_integer a && eqb b UInt128)

-- the signed types that are no wider than UInt64
abbrev pub signed_to64 : List ℕ
signed_to64 = Int8 ∷ Int16 ∷ Int32 ∷ Int64 ∷ []

-- one is UInt64, the other signed and no wider than it
unfoldable pub uint64_with_signed : ℕ → ℕ → Bool
uint64_with_signed a b = (eqb a UInt64 && among signed_to64 b) || (among signed_to64 a && eqb b UInt64)

-- a number of one of two columns
pub data Logged (a b : ℕ) (z : ℤ) : Type 0 where
  left : Holds a z → Logged a b z
  right : Holds b z → Logged a b z

-- two different numbers of two columns that are one number in Float64
pub record MadeOne (a b : ℕ) : Type 0 where
  pub one : ℤ
  pub other : ℤ
  pub differ : one ≡ other → ⊥
  pub one_logged : Logged a b one
  pub other_logged : Logged a b other
  pub merged : as_float64 one ≡ as_float64 other

pub record NumberLaws : Type 0 where
  -- two integer types always have a supertype, and it is Float64 or an integer type
  pub answers : (i s : Bool) (a b : ℕ) → Listed a → Listed b
      → (t : ℕ) × (supertype i s (node a 0) (node b 0) ≡ Some (node t 0)) × ((t ≡ Float64 → ⊥) → Listed t)
  -- (a) where the supertype is an integer type, it includes both ranges unless UInt128 meets a signed type; those
  -- pairs, which give Int128, lose numbers
  pub integers : (i s : Bool) (a b t : ℕ) → Listed a → Listed b → Listed t
      → supertype i s (node a 0) (node b 0) ≡ Some (node t 0)
      → (Includes t a × Includes t b) ↔ (uint128_with_signed a b ≡ false)
  pub uint128 : (i s : Bool) (a b : ℕ) → uint128_with_signed a b ≡ true
      → supertype i s (node a 0) (node b 0) ≡ Some (node Int128 0)
  -- (b) the supertype is Float64 exactly where UInt64 meets a signed type no wider than it, as it was for tank 7
  pub floats : (i s : Bool) (a b : ℕ) → Listed a → Listed b
      → (supertype i s (node a 0) (node b 0) ≡ Some (node Float64 0)) ↔ (uint64_with_signed a b ≡ true)
  -- of such a pair an integer type includes both ranges, which the lossless upcast finds
  pub avoidable : (a b : ℕ) → uint64_with_signed a b ≡ true
      → (upcast_of a b ≡ Some Int128) × Includes Int128 a × Includes Int128 b
  -- (c) Float64 makes one number of two that such a pair of columns could hold
  pub merges : (a b : ℕ) → uint64_with_signed a b ≡ true → MadeOne a b
  -- (d) a Decimal n with an integer type is a Decimal of its scale and no less precision, in either order: n loses none
  -- of its numbers
  pub decimals : (i s : Bool) (n : Node) (k : ℕ) → n.kind ≡ Decimal → fits n ≡ true → Listed k
      → (t : Node) × (supertype i s n (node k 0) ≡ Some t) × (supertype i s (node k 0) n ≡ Some t)
      × (t.kind ≡ Decimal) × (scale t ≡ scale n) × (precision n ≤ precision t)
  -- it keeps every number of the integer column exactly where the type has at most 38 − scale digits
  pub decimal_keeps : (i s : Bool) (n t : Node) (k : ℕ) → n.kind ≡ Decimal → fits n ≡ true → Listed k
      → supertype i s n (node k 0) ≡ Some t
      → ((z : ℤ) → Holds k z → DecimalHolds (precision t) (scale t) z) ↔ (digits_of k ≤ dec128_max_prec - scale n)
  -- where it has more, the largest number is lost, and no Decimal of that scale could hold it
  pub decimal_misses : (k prec scale : ℕ) → Listed k → scale ≤ prec → prec ≤ dec128_max_prec
      → dec128_max_prec - scale < digits_of k
      → Holds k (pos (max_of k)) × (DecimalHolds prec scale (pos (max_of k)) → ⊥)
