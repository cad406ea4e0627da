-- What a predicate says of a run of kinds: one test that antt computes over the run. Assumes nothing.
use mathlib.Core.Path.{◌≡◌, refl}
use mathlib.Core.Bool.{Bool, true, false}
use Prim.Native.Nat.{ℕ, ◌+◌, ◌≤◌, ◌<◌}
use lib.Dec.{T}
use Rattle.flat.proofs.Rules.{run, in_run}
use Rattle.dtype.specs.Match.{among}
use Rattle.dtype.specs.Predicate.{is_temporal, is_float, is_unknown_int, is_signed_integer, is_unsigned_integer}
use Rattle.dtype.specs.Predicate.{is_integer, is_primitive_numeric, is_primitive, is_nested, is_string, is_unknown}

-- the two are the same
abbrev pub same : Bool → Bool → Bool
same true b = b
same false true = false
same false false = true

pub are_same : (a b : Bool) → T (same a b) → a ≡ b
are_same true true t = refl
are_same true false t = absurd t
are_same false true t = absurd t
are_same false false t = refl

-- p says b of the n kinds from lo on: `unfold says in tt` computes it, whichever predicate p is
unfoldable pub says : (ℕ → Bool) → Bool → ℕ → ℕ → Bool
unfolding among is_temporal is_float is_unknown_int is_signed_integer is_unsigned_integer is_integer
    is_primitive_numeric is_primitive is_nested is_string is_unknown
says p b lo n = run (λ k. same b (p k)) lo n

-- p says b of each kind in such a run
pub of_run : (p : ℕ → Bool) (b : Bool) (lo n : ℕ) → T (says p b lo n) → (k : ℕ) → (lo ≤ k) × (k < lo + n) → b ≡ p k
unfolding says
of_run p b lo n t k h = are_same b (p k) (in_run (λ k. same b (p k)) lo n t k h.0 h.1)
