-- When the range of an integer type includes another: one law over the signs and the widths, and what it comes to for the
-- ten. Assumes nothing.
use mathlib.Core.Path.{◌≡◌, sym, subst}
use mathlib.Core.Bool.{Bool, true, false, not, ◌&&◌, ◌||◌}
use mathlib.Core.Logic.{◌↔◌}
use mathlib.Core.List.{List}
use Prim.Native.Nat.{ℕ, ◌-◌, ◌^◌, ◌≤◌, ◌<◌}
use native.Mathlib.Omega.{arith}
use native.Mathlib.Decide.{dec_le}
use lib.Dec.{T, leb, eqb, leb→le, le→leb, ltb→lt, lt→ltb, eqb→eq}
use lib.Pow.{pow_pos, pow_mono, pow-lt}
use lib.IntN.{ℤ, pos, negsuc}
use lib.Signed.{mag, non_neg}
use Rattle.flat.proofs.Rules.{and_left, and_right, and_both, implies}
use Rattle.dtype.specs.Match.{among}
use Rattle.dtype.specs.Predicate.{is_signed_integer}
use Rattle.supertype_numbers.specs.Integer.{in_range, width_of, bits, max_in, holds}
use Rattle.supertype_numbers.proofs.Integers.{is_in_range}
use Rattle.supertype_numbers.specs.Range.{Listed, is_listed, HasNumber, Includes, Least}
use Rattle.supertype_numbers.proofs.Tests.{listed, is_listed_kind, at, at_pair}

-- z is in the range of a type by its sign and its size
module _ (s : Bool) (w : ℕ) (z : ℤ) where
  into : T (s || non_neg z) → mag z < 2 ^ bits s w → T (in_range s w z)
  into i l = subst T (sym (is_in_range s w z)) (and_both (s || non_neg z) _ i (lt→ltb (mag z) (2 ^ bits s w) l))

  sign : T (in_range s w z) → T (s || non_neg z)
  sign h = and_left (s || non_neg z) _ (subst T (is_in_range s w z) h)

  pub size : T (in_range s w z) → mag z < 2 ^ bits s w
  size h = ltb→lt (mag z) (2 ^ bits s w) (and_right (s || non_neg z) _ (subst T (is_in_range s w z) h))

-- the largest number of a range
pub has_max : (s : Bool) (w : ℕ) → T (in_range s w (pos (max_in s w)))
has_max s w = into s w (pos (max_in s w)) (go s) (omega (arith, pow_pos (bits s w)))
  where
    go : (s : Bool) → T (s || true)
    go true = tt
    go false = tt

-- 2 ^ a - 1 < 2 ^ b only where a ≤ b
back : (a b : ℕ) → 2 ^ a - 1 < 2 ^ b → a ≤ b
back a b h = go (dec_le a b)
  where
    go : Dec (a ≤ b) → a ≤ b
    go (yes l) = l
    go (no n) = let l : 2 ^ b < 2 ^ a = pow-lt (omega arith) in absurd (omega arith)

-- a type with the sign s and the width w, and one with t and v, which has −1 if it has a sign, and 2 ^ bits − 1
module _ (s : Bool) (w : ℕ) (t : Bool) (v : ℕ) where
  abbrev within : Bool
  within = (s || not t) && leb (bits t v) (bits s w)

  least : ((z : ℤ) → T (in_range t v z) → T (in_range s w z)) → T (s || not t)
  least h = go s t (λ i. sign s w (negsuc 0) (h (negsuc 0) (into t v (negsuc 0) i (pow_pos (bits t v)))))
    where
      go : (s t : Bool) → (T (t || false) → T (s || false)) → T (s || not t)
      go true t f = tt
      go false true f = f tt
      go false false f = tt

  most : ((z : ℤ) → T (in_range t v z) → T (in_range s w z)) → bits t v ≤ bits s w
  most h = back (bits t v) (bits s w) (size s w (pos (max_in t v)) (h (pos (max_in t v)) (has_max t v)))

  all : T (s || not t) → bits t v ≤ bits s w → (z : ℤ) → T (in_range t v z) → T (in_range s w z)
  all i l z h =
      let m : 2 ^ bits t v ≤ 2 ^ bits s w = pow_mono l in
      into s w z (go s t (non_neg z) i (sign t v z h)) (omega (arith, size t v z h))
    where
      go : (s t n : Bool) → T (s || not t) → T (t || n) → T (s || n)
      go true t n i j = tt
      go false true n i j = absurd i
      go false false n i j = j

  law : ((z : ℤ) → T (in_range t v z) → T (in_range s w z)) ↔ T within
  law =
      ((λ h. and_both (s || not t) _ (least h) (le→leb (bits t v) (bits s w) (most h))), (λ i. all (and_left (s || not t) _ i) (leb→le (bits t v) (bits s w) (and_right (s || not t) _ i))))

-- whether the range of t includes that of k, by their signs and widths
abbrev pub inside : ℕ → ℕ → Bool
inside t k = within (is_signed_integer t) (width_of t) (is_signed_integer k) (width_of k)

pub includes : (t k : ℕ) → Listed t → Listed k → Includes t k ↔ T (inside t k)
includes t k p q =
    let l = law (is_signed_integer t) (width_of t) (is_signed_integer k) (width_of k) in
    ((λ h. l.0 (λ z i. (h z (q, i)).1)), (λ i z h. (p, l.1 i z h.1)))

-- a listed type's range has a number, 0 among others, and no other kind's has one
pub has_number : (k : ℕ) → HasNumber k ↔ (is_listed k ≡ true)
unfolding is_signed_integer among
has_number k = ((λ h. is_listed_kind h.1.0), (λ e. (pos 0, (listed e, at (λ n. holds n (pos 0)) tt k (listed e)))))

-- two listed types that include each other are the same
abbrev apart : ℕ → ℕ → Bool
apart a b = not (inside a b && inside b a) || eqb a b

same : (a b : ℕ) → Listed a → Listed b → Includes a b → Includes b a → a ≡ b
unfolding is_signed_integer among
same a b p q f g = eqb→eq a b (implies (inside a b && inside b a) (eqb a b) (at_pair apart tt a b p q) (and_both (inside a b) (inside b a) ((includes a b p q).0 f) ((includes b a q p).0 g)))

-- at most one type is the least over the same types
pub least_one : {ks : List ℕ} {t u : ℕ} → Least t ks → Least u ks → t ≡ u
least_one {ks} {t} {u} l m = same t u l.is_listed_kind m.is_listed_kind (m.innermost t l.is_listed_kind l.covers) (l.innermost u m.is_listed_kind m.covers)
