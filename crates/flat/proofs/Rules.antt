-- A rule that a run of kinds has, or two runs: one test that antt computes over them. Assumes nothing.
use mathlib.Core.Path.{◌≡◌, refl, sym, subst}
use mathlib.Core.Bool.{Bool, true, false, not, ◌&&◌, ◌||◌}
use Prim.Native.Nat.{ℕ, zero, suc, ◌+◌, ◌≤◌, ◌<◌}
use native.Mathlib.Omega.{arith}
use borrow.Author.Tests.{eqb-true, eqb-false, lt-leb}
use lib.Dec.{T, leb, eqb}
use Rattle.flat.specs.Kind
use Rattle.flat.specs.Argument.{Rule, decimal, datetime, below, free, argument_rule, follows, argument_fits}
use Rattle.flat.proofs.Truths.{is_true}

-- f holds of the n numbers from lo on
abbrev pub run : (ℕ → Bool) → ℕ → ℕ → Bool
run f lo zero = true
run f lo (suc n) = f lo && run f (suc lo) n

-- of two tests
pub and_left : (a b : Bool) → T (a && b) → T a
and_left true b t = tt
and_left false b t = t

pub and_right : (a b : Bool) → T (a && b) → T b
and_right true b t = t
and_right false b t = absurd t

pub and_both : (a b : Bool) → T a → T b → T (a && b)
and_both true b s t = t
and_both false b s t = s

pub or_right : {a : Bool} (b : Bool) → a ≡ false → T (a || b) → T b
or_right b e t = subst (λ (x : Bool). T (x || b)) e t

pub implies : (a b : Bool) → T (not a || b) → T a → T b
implies true b t s = t
implies false b t s = absurd s

-- a test that holds of a run holds of each number in it
pub in_run : (f : ℕ → Bool) (lo n : ℕ) → T (run f lo n) → (k : ℕ) → lo ≤ k → k < lo + n → T (f k)
in_run f lo zero t k h l = absurd (omega arith)
in_run f lo (suc n) t k h l =
    go (eqb k lo) refl (λ m. in_run f (suc lo) n (and_right (f lo) (run f (suc lo) n) t) k m (omega arith))
  where
    go : (b : Bool) → eqb k lo ≡ b → (suc lo ≤ k → T (f k)) → T (f k)
    go true e rest = subst (λ (j : ℕ). T (f j)) (sym (eqb-true k lo e)) (and_left (f lo) (run f (suc lo) n) t)
    go false e rest = rest (omega (arith, eqb-false k lo e))

pub passes : (f : ℕ → Bool) (lo n : ℕ) → T (run f lo n) → (k : ℕ) → lo ≤ k → k < lo + n → f k ≡ true
passes f lo n t k h l = is_true (f k) (in_run f lo n t k h l)

-- two kinds: a is in the first run and b in the second
abbrev pub In : ℕ → ℕ → ℕ → ℕ → ℕ → ℕ → Type 0
In i m j n a b = ((i ≤ a) × (a < i + m)) × ((j ≤ b) × (b < j + n))

abbrev pub area : (ℕ → ℕ → Bool) → ℕ → ℕ → ℕ → ℕ → Bool
area f i m j n = run (λ a. run (f a) j n) i m

pub in_area : (f : ℕ → ℕ → Bool) (i m j n : ℕ) → T (area f i m j n) → (a b : ℕ) → In i m j n a b → T (f a b)
in_area f i m j n t a b h =
    in_run (f a) j n (in_run (λ a. run (f a) j n) i m t a h.0.0 h.0.1) b h.1.0 h.1.1

-- the rules that several kinds share: the argument is 0, or any
abbrev pub is_zero : Rule → Bool
is_zero Rule.zero = true
is_zero decimal = false
is_zero datetime = false
is_zero (below n) = false
is_zero free = false

abbrev pub is_free : Rule → Bool
is_free Rule.zero = false
is_free decimal = false
is_free datetime = false
is_free (below n) = false
is_free free = true

pub zero_follows : (r : Rule) (a : ℕ) → T (is_zero r) → eqb a 0 ≡ follows r a
zero_follows Rule.zero a t = refl
zero_follows decimal a t = absurd t
zero_follows datetime a t = absurd t
zero_follows (below n) a t = absurd t
zero_follows free a t = absurd t

pub free_follows : (r : Rule) (a : ℕ) → T (is_free r) → true ≡ follows r a
free_follows Rule.zero a t = absurd t
free_follows decimal a t = absurd t
free_follows datetime a t = absurd t
free_follows (below n) a t = absurd t
free_follows free a t = refl

-- a run of kinds whose rules all say v of an argument, by the test p
pub ruled :
    (p : Rule → Bool) {v : ℕ → Bool} → ((r : Rule) (a : ℕ) → T (p r) → v a ≡ follows r a) → (lo n : ℕ)
    → T (run (λ k. leb k Kind.Field && p (argument_rule k)) lo n) → (k a : ℕ) → lo ≤ k → k < lo + n
    → v a ≡ argument_fits k a
unfolding argument_fits
ruled p {v} says lo n t k a h l =
    go (leb k Kind.Field) (in_run (λ k. leb k Kind.Field && p (argument_rule k)) lo n t k h l)
  where
    go : (b : Bool) → T (b && p (argument_rule k)) → v a ≡ (b && follows (argument_rule k) a)
    go true u = says (argument_rule k) a u
    go false u = absurd u

pub no_kind : (k a : ℕ) → Kind.Field < k → false ≡ argument_fits k a
unfolding argument_fits
no_kind k a h = rw (lt-leb k Kind.Field h)

-- a kind from n on that is not n is past it
pub next : (n : ℕ) {k : ℕ} → n ≤ k → (k ≡ n → ⊥) → suc n ≤ k
next n {k} h o = omega arith
