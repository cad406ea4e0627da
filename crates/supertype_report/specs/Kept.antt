-- When the supertype of two integer types keeps every whole number of both. Assumes nothing: these are definitions.
use Rattle.std.specs.Prelude.{◌≡◌, false, ℕ, ℤ}
use Rattle.std.specs.Prelude.{Some}
use Rattle.supertype_answer.specs.Join.{node}
use Rattle.supertype_numbers.specs.Range.{Holds}
use Rattle.supertype_numbers.specs.Format.{Format, format_of, WholeIn}
use Rattle.supertype_arms.specs.Supertype.{supertype}

-- the type of the kind k has the whole number z: an integer type whose range holds it, or a float of whose format it is
-- a number
pub data Has (k : ℕ) (z : ℤ) : Type 0 where
  integer : Holds k z → Has k z
  float : (f : Format) → format_of k ≡ Some f → WholeIn f z → Has k z

-- the supertype of two integer types, both flags off, has every whole number of both
pub record Kept (a b : ℕ) : Type 0 where
  pub kind : ℕ
  pub is_supertype : supertype false false (node a 0) (node b 0) ≡ Some (node kind 0)
  pub left : (z : ℤ) → Holds a z → Has kind z
  pub right : (z : ℤ) → Holds b z → Has kind z
