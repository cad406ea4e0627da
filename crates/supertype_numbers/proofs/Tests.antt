-- The ten listed integer types: what the test of a kind tells, and a rule that all ten have, as one test that antt
-- computes over them. Assumes nothing.
use mathlib.Core.Path.{◌≡◌, subst}
use mathlib.Core.Bool.{Bool, true, false}
use Prim.Native.Nat.{ℕ}
use native.Mathlib.Omega.{arith}
use lib.Dec.{T, leb, leb→le, le→leb}
use Rattle.flat.specs.Kind
use Rattle.flat.proofs.Truths.{is_true, to_T}
use Rattle.flat.proofs.Rules.{run, in_run, and_left, and_right, and_both}
use Rattle.supertype_numbers.specs.Range.{Listed, is_listed}

-- ---- the test of a kind
pub to_listed : (k : ℕ) → T (is_listed k) → Listed k
unfolding is_listed
to_listed k t =
    (leb→le Kind.UInt8 k (and_left (leb Kind.UInt8 k) _ t), leb→le k Kind.Int128 (and_right (leb Kind.UInt8 k) _ t))

pub of_listed : (k : ℕ) → Listed k → T (is_listed k)
unfolding is_listed
of_listed k l = and_both (leb Kind.UInt8 k) _ (le→leb Kind.UInt8 k l.0) (le→leb k Kind.Int128 l.1)

pub listed : {k : ℕ} → is_listed k ≡ true → Listed k
listed {k} e = to_listed k (to_T e)

pub is_listed_kind : {k : ℕ} → Listed k → is_listed k ≡ true
is_listed_kind {k} l = is_true (is_listed k) (of_listed k l)

pub not_listed : {k : ℕ} → is_listed k ≡ false → Listed k → ⊥
not_listed {k} e l = subst T e (of_listed k l)

-- ---- a rule of all ten

-- f holds of each of them
abbrev pub each : (ℕ → Bool) → Bool
each f = run f Kind.UInt8 10

pub at : (f : ℕ → Bool) → T (each f) → (k : ℕ) → Listed k → T (f k)
at f t k l = in_run f Kind.UInt8 10 t k l.0 (omega arith)

-- f holds of every two of them
abbrev pub pairs : (ℕ → ℕ → Bool) → Bool
pairs f = each (λ a. each (f a))

pub at_pair : (f : ℕ → ℕ → Bool) → T (pairs f) → (a b : ℕ) → Listed a → Listed b → T (f a b)
at_pair f t a b p q = at (f a) (at (λ n. each (f n)) t a p) b q
