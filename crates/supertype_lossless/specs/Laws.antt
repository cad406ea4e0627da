-- What the lossless upcast is, from the ranges of the integer types and the float formats. Assumes nothing: these are
-- definitions.
use Rattle.std.specs.Prelude.{◌≡◌, ◌↔◌, [], ◌∷◌, ℕ, None, Some}
use Rattle.supertype_numbers.specs.Range.{Listed, Least, Room}
use Rattle.supertype_numbers.specs.Format.{Format, format_of, FormatIncludes}
use Rattle.supertype_lossless.specs.Lossless.{upcast_of}

pub record LosslessLaws : Type 0 where
  -- of two unequal integer types: the one listed type whose range includes both and lies inside every other that does
  pub least : (l r : ℕ) → Listed l → Listed r → (l ≡ r → ⊥) → (t : ℕ) → (upcast_of l r ≡ Some t) ↔ Least t (l ∷ r ∷ [])
  -- of two unequal integer types: None exactly where no listed type includes both
  pub none : (l r : ℕ) → Listed l → Listed r → (l ≡ r → ⊥) → (upcast_of l r ≡ None) ↔ (Room (l ∷ r ∷ []) → ⊥)
  -- of two unequal floats: a format that has every finite number of both
  pub floats : (l r : ℕ) (f g : Format) → format_of l ≡ Some f → format_of r ≡ Some g → (l ≡ r → ⊥)
      → (t : ℕ) × (h : Format) × (upcast_of l r ≡ Some t) × (format_of t ≡ Some h)
      × FormatIncludes h f × FormatIncludes h g
