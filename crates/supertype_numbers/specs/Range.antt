-- The ten integer types, document 01's listed ones: when the range of one includes another, and which is the least over
-- some. Assumes nothing: these are definitions.
use Rattle.std.specs.Prelude.{Bool, ◌&&◌, List, [], ◌∷◌, ℕ, ◌≤◌, T, leb, ℤ}
use Rattle.flat.specs.Kind
use Rattle.supertype_numbers.specs.Integer.{holds}

-- the listed integer types are the kinds UInt8 to Int128, 2 to 11
abbrev pub Listed : ℕ → Type 0
Listed k = (Kind.UInt8 ≤ k) × (k ≤ Kind.Int128)

-- whether a kind is listed
unfoldable pub is_listed : ℕ → Bool
is_listed k = leb Kind.UInt8 k && leb k Kind.Int128

-- a column of the kind k could hold z: k is listed, and z is in its range
abbrev pub Holds : ℕ → ℤ → Type 0
Holds k z = Listed k × T (holds k z)

-- the range of the kind k has a number at all
abbrev pub HasNumber : ℕ → Type 0
HasNumber k = (z : ℤ) × Holds k z

-- the range of the kind t includes that of the kind k: it has all its numbers
abbrev pub Includes : ℕ → ℕ → Type 0
Includes t k = (z : ℤ) → Holds k z → Holds t z

-- the range of the kind t includes those of all the kinds ks
abbrev pub Covers : ℕ → List ℕ → Type 0
Covers t [] = Unit {0}
Covers t (k ∷ ks) = Includes t k × Covers t ks

-- t is the listed type whose range includes those of all ks and lies inside every listed type that does
pub record Least (t : ℕ) (ks : List ℕ) : Type 0 where
  pub is_listed_kind : Listed t
  pub covers : Covers t ks
  pub innermost : (u : ℕ) → Listed u → Covers u ks → Includes u t

-- some listed type includes all of ks
abbrev pub Room : List ℕ → Type 0
Room ks = (t : ℕ) × Listed t × Covers t ks
