-- What the scans over a type's kinds say. Assumes nothing: these are definitions.
use Rattle.std.specs.Prelude.{◌≡◌, Bool, ◌||◌, [], ◌∷◌, ℕ}
use Rattle.flat.specs.Kind
use Rattle.dtype.specs.Match.{among}
use Rattle.dtype.specs.Predicate.{is_temporal}

-- a List's kind
unfoldable pub is_list_kind : ℕ → Bool
is_list_kind = among (Kind.List ∷ [])

-- the kinds whose physical form is another
unfoldable pub is_logical_kind : ℕ → Bool
is_logical_kind k = is_temporal k || among (Kind.Decimal ∷ []) k

-- a test that is handed in answers as p does
abbrev pub Tests : (ℕ → Bool → Type 0) → (ℕ → Bool) → Type 0
Tests post p = (k : ℕ) (b : Bool) → post k b → b ≡ p k
