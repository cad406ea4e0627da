-- The supertype of two integer types, by tests that antt computes over all pairs of the ten. Assumes nothing.
use Rattle.std.specs.Prelude.{Option, None, Some}
use mathlib.Core.Path.{◌≡◌, refl, sym, ap, subst}
use mathlib.Core.Bool.{Bool, true, false, cond, not, ◌&&◌}
use mathlib.Core.Logic.{◌↔◌}
use Prim.Native.Nat.{ℕ}
use native.Mathlib.Omega.{arith}
use borrow.Author.Tests.{not-true}
use lib.Dec.{T, eqb, eqb→eq}
use Rattle.flat.specs.Kind.{Int128, Float64}
use Rattle.flat.proofs.Rules.{and_left, and_right, and_both}
use Rattle.flat.proofs.Truths.{is_true}
use Rattle.dtype.specs.Equality.{equal_node}
use Rattle.dtype.proofs.Runs.{same, are_same}
use Rattle.flat.specs.declared.Node.{Node}
use Rattle.supertype_answer.specs.Join.{node}
use Rattle.supertype_numbers.specs.Range.{Listed, is_listed, Includes}
use Rattle.supertype_numbers.proofs.Tests.{to_listed, pairs, at_pair}
use Rattle.supertype_numbers.proofs.Ranges.{inside, includes}
use Rattle.supertype_lossless.specs.Lossless.{upcast_of}
use Rattle.supertype_lossless.proofs.Upcasts.{right as upcasts}
use Rattle.supertype_arms.specs.Rule.{IsSupertype}
use Rattle.supertype_arms.specs.Supertype.{run, inner, supertype_with, known_supertype, supertype}
use Rattle.supertype_arms.proofs.Areas.{right_at}
use Rattle.supertype_arms.proofs.Bare.{of_one}
use Rattle.supertype_report.specs.Laws.{uint128_with_signed, uint64_with_signed}

abbrev kind_of : Option ℕ → ℕ
kind_of (Some k) = k
kind_of None = 0

is_int128 : (u : Option ℕ) → T (eqb (kind_of u) Int128) → u ≡ Some Int128
is_int128 (Some k) t = ap Some (eqb→eq k Int128 t)
is_int128 None t = absurd t

-- the kind of the supertype: that of the lossless upcast, save where UInt128 or UInt64 meets a signed type
unfoldable pub joined : ℕ → ℕ → ℕ
unfolding right_at upcasts uint128_with_signed uint64_with_signed
joined a b =
    cond (uint128_with_signed a b) Int128 (cond (uint64_with_signed a b) Float64 (cond (eqb a b) a (kind_of (upcast_of a b))))

-- ---- it is the supertype's

-- t is Some type of the kind k, without an argument
abbrev bare : Option Node → ℕ → Bool
bare (Some n) k = eqb n.kind k && eqb n.arg 0
bare None k = false

is_bare : (t : Option Node) (k : ℕ) → T (bare t k) → t ≡ Some (node k 0)
is_bare (Some n) k t =
    λ i. Some
    (node (eqb→eq n.kind k (and_left (eqb n.kind k) _ t) i)
    (eqb→eq n.arg 0 (and_right (eqb n.kind k) _ t) i))
is_bare None k t = absurd t

unfoldable joined_at : Bool → ℕ → ℕ → Bool
unfolding joined supertype known_supertype supertype_with inner equal_node run
joined_at s a b = bare (supertype false s (node a 0) (node b 0)) (joined a b)

joined_hold : T (pairs (λ a b. joined_at true a b && joined_at false a b))
unfolding joined_at
joined_hold = tt

-- ---- what it keeps

-- t is the kind of the supertype: Float64, although Int128 includes both ranges, or an integer type, which includes
-- them unless UInt128 meets a signed type
pub data Answered (a b t : ℕ) : Type 0 where
  float64 : uint64_with_signed a b ≡ true → t ≡ Float64 → upcast_of a b ≡ Some Int128 → Includes Int128 a → Includes Int128 b
      → Answered a b t
  integral : uint64_with_signed a b ≡ false → Listed t → (Includes t a × Includes t b) ↔ (uint128_with_signed a b ≡ false)
      → Answered a b t

-- the two cases as tests
abbrev is_float : ℕ → ℕ → ℕ → Bool
is_float a b t = eqb t Float64 && (eqb (kind_of (upcast_of a b)) Int128 && (inside Int128 a && inside Int128 b))

abbrev is_integer : ℕ → ℕ → ℕ → Bool
is_integer a b t = is_listed t && same (inside t a && inside t b) (not (uint128_with_signed a b))

unfoldable answered_at : ℕ → ℕ → Bool
unfolding joined
answered_at a b = cond (uint64_with_signed a b) (is_float a b (joined a b)) (is_integer a b (joined a b))

answered_hold : T (pairs answered_at)
unfolding is_listed answered_at
answered_hold = tt

module _ (a b : ℕ) (p : Listed a) (q : Listed b) where
  pub is_joined : (i s : Bool) → supertype i s (node a 0) (node b 0) ≡ Some (node (joined a b) 0)
  unfolding supertype joined_at
  is_joined i s =
      is_bare (supertype false s (node a 0) (node b 0)) (joined a b)
      (go s (at_pair (λ a b. joined_at true a b && joined_at false a b) joined_hold a b p q))
    where
      go : (s : Bool) → T (joined_at true a b && joined_at false a b) → T (joined_at s a b)
      go true t = and_left (joined_at true a b) _ t
      go false t = and_right (joined_at true a b) _ t

  to_float : (t : ℕ) → uint64_with_signed a b ≡ true → T (is_float a b t) → Answered a b t
  to_float t e u =
      let v = and_right (eqb t Float64) _ u in
      let w = and_right (eqb (kind_of (upcast_of a b)) Int128) _ v in
      float64 e (eqb→eq t Float64 (and_left (eqb t Float64) _ u))
      (is_int128 (upcast_of a b) (and_left (eqb (kind_of (upcast_of a b)) Int128) _ v))
      ((includes Int128 a (omega arith) p).1 (and_left (inside Int128 a) _ w))
      ((includes Int128 b (omega arith) q).1 (and_right (inside Int128 a) _ w))

  to_integer : (t : ℕ) → uint64_with_signed a b ≡ false → T (is_integer a b t) → Answered a b t
  to_integer t e u = integral e l (there, back)
    where
      l : Listed t
      l = to_listed t (and_left (is_listed t) _ u)

      alike : (inside t a && inside t b) ≡ not (uint128_with_signed a b)
      alike = are_same _ _ (and_right (is_listed t) _ u)

      there : Includes t a × Includes t b → uint128_with_signed a b ≡ false
      there h =
          let both = and_both (inside t a) _ ((includes t a l p).0 h.0) ((includes t b l q).0 h.1) in
          not-true _ (is_true _ (subst T alike both))

      back : uint128_with_signed a b ≡ false → Includes t a × Includes t b
      back f =
          let v : T (inside t a && inside t b) = rw (alike, f) tt in
          ((includes t a l p).1 (and_left (inside t a) _ v), (includes t b l q).1 (and_right (inside t a) _ v))

  pub answered : Answered a b (joined a b)
  unfolding answered_at
  answered = go (uint64_with_signed a b) refl (at_pair answered_at answered_hold a b p q)
    where
      go : (x : Bool) → uint64_with_signed a b ≡ x → T (cond x (is_float a b (joined a b)) (is_integer a b (joined a b)))
          → Answered a b (joined a b)
      go true e t = to_float (joined a b) e t
      go false e t = to_integer (joined a b) e t

  -- whatever the flags, there is one such kind
  pub kind_is : (i s : Bool) (t : ℕ) → supertype i s (node a 0) (node b 0) ≡ Some (node t 0) → joined a b ≡ t
  kind_is i s t e = let f = is_joined i s in let n : node (joined a b) 0 ≡ node t 0 = cc in ap (λ (m : Node). m.kind) n

  pub told : (i s : Bool) (t : ℕ) → supertype i s (node a 0) (node b 0) ≡ Some (node t 0) → Answered a b t
  told i s t e = subst (Answered a b) (kind_is i s t e) answered

-- ---- it is the code's

pub of_equal : {a b : ℕ} → a ≡ b → supertype false false (node a 0) (node b 0) ≡ Some (node a 0)
unfolding supertype
of_equal e = sym (of_one known_supertype false e)

pub of_kinds : (a b k : ℕ) → IsSupertype a b k → supertype false false (node a 0) (node b 0) ≡ Some (node k 0)
unfolding supertype
of_kinds a b k e = e known_supertype false
