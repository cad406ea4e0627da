-- Small truths that the proofs of every crate cite. Assumes nothing.
use mathlib.Core.Path.{◌≡◌, refl, sym, ap, subst, ◌∙◌}
use Rattle.std.specs.Prelude.{Result, Err}
use mathlib.Core.Bool.{Bool, true, false, not, ◌&&◌}
use mathlib.Core.List.{List, [], ◌∷◌}
use Prim.Native.Nat.{ℕ, ◌<◌, ◌+◌, ◌-◌}
use native.Mathlib.Omega.{arith}
use borrow.Author.Tests.{not-true, not-false}
use lib.Dec.{T}
use lib.ListN.{length, set}
use Rattle.flat.specs.Output.{over}

-- From an equation of two different constructors: `impossible cc`.
pub impossible : {A : Type 0} → ◌≡◌ {A = ℕ} 0 1 → A
impossible z = absurd (omega (arith, z))

pub never : {A : Type 0} → false ≡ true → A
never e = impossible cc

pub is_true : (b : Bool) → T b → b ≡ true
is_true true t = refl
is_true false t = absurd t

pub to_T : {b : Bool} → b ≡ true → T b
to_T e = rw e tt

pub both_true : (a b : Bool) → (a && b) ≡ true → (a ≡ true) × (b ≡ true)
both_true true b e = (refl, e)
both_true false b e = never e

-- What a test `if !f(x)` tells, where f answers r, which is b.
pub answered_no : {r b : Bool} → r ≡ b → not r ≡ true → b ≡ false
answered_no {r} e t = sym e ∙ not-true r t

pub answered_yes : {r b : Bool} → r ≡ b → not r ≡ false → b ≡ true
answered_yes {r} e t = sym e ∙ not-false r t

-- A fact with its statement: what a view of a place in the code gives, where to state it would be to name a constant of
-- the code, or to go over the way there again. A view is an `abbrev`, so its fact is seen.
pub record Fact : Type 1 where
  pub states : Type 0
  pub proof : states

abbrev pub fact : {A : Type 0} → A → Fact
fact {A} a = record { states = A; proof = a }

-- one element stored at the front
pub over_one : (out : List ℕ) → 0 < length out → (y : ℕ) → set out 0 y ≡ over (y ∷ []) out
over_one [] h y = absurd (omega arith)
over_one (x ∷ out) h y = refl

-- ---- a loop over n rounds, of which k are done: what is left
pub none_done : (P : ℕ → Type 0) (n : ℕ) → P n → P (n - 0)
none_done P n p = subst P (let e : n ≡ n - 0 = omega arith in e) p

pub one_done : (P : ℕ → Type 0) (n k : ℕ) → P (n - k - 1) → P (n - (k + 1))
one_done P n k p = subst P (let e : n - k - 1 ≡ n - (k + 1) = omega arith in e) p

-- What a `?` hands on.
pub handed_on : {T E : Type 0} {r : Result T E} {d : E} → (y : E) × (r ≡ Err y) × (y ≡ d) → r ≡ Err d
handed_on p = p.1 ∙ ap Err p.2
