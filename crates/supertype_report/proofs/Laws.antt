-- The laws of whole numbers hold. Assumes nothing.
use Rattle.std.specs.Prelude.{Some}
use mathlib.Core.Path.{◌≡◌, refl, sym, ap, subst, ◌∙◌}
use mathlib.Core.Logic.{◌↔◌}
use mathlib.Core.Bool.{Bool, true, false, ◌&&◌, ◌||◌}
use mathlib.Core.List.{List, [], ◌∷◌}
use Prim.Native.Nat.{ℕ, ◌+◌, ◌^◌}
use native.Mathlib.Omega.{arith}
use lib.Dec.{T, eqb, eqb→eq}
use lib.IntN.{ℤ, pos}
use borrow.Author.Tests.{eqb-true}
use Rattle.flat.specs.Kind.{UInt64, UInt128, Int8, Int16, Int32, Int64, Int128, Float64}
use Rattle.flat.proofs.Rules.{and_left, and_right}
use Rattle.flat.proofs.Truths.{never, to_T}
use Rattle.dtype.specs.Match.{among}
use Rattle.dtype.specs.Predicate.{is_signed_integer}
use Rattle.supertype_answer.specs.Join.{node}
use Rattle.supertype_numbers.specs.Range.{Listed, is_listed, Holds, Includes}
use Rattle.supertype_numbers.proofs.Tests.{to_listed}
use Rattle.supertype_lossless.specs.Lossless.{upcast_of}
use Rattle.supertype_arms.specs.Supertype.{supertype}
use Rattle.supertype_report.specs.Laws.{uint128_with_signed, signed_to64, uint64_with_signed, Logged, left, right}
use Rattle.supertype_report.specs.Laws.{MadeOne, NumberLaws}
use Rattle.supertype_report.proofs.Decimals.{decimals, decimal_keeps, decimal_misses}
use Rattle.supertype_report.proofs.Rounding.{merged}
use Rattle.supertype_report.proofs.Pairs.{joined, is_joined, Answered, float64, integral, answered, told}

-- ---- the pairs that the laws name

abbrev all_listed : List ℕ → Bool
all_listed [] = true
all_listed (j ∷ js) = is_listed j && all_listed js

among_listed : (js : List ℕ) → T (all_listed js) → (k : ℕ) → T (among js k) → Listed k
unfolding among
among_listed [] t k u = absurd u
among_listed (j ∷ js) t k u = go (eqb k j) refl u (among_listed js (and_right (is_listed j) _ t) k)
  where
    go : (x : Bool) → eqb k j ≡ x → T (x || among js k) → (T (among js k) → Listed k) → Listed k
    go true e v rest = subst Listed (sym (eqb-true k j e)) (to_listed j (and_left (is_listed j) _ t))
    go false e v rest = rest v

-- one of a and b is u, the other one of js
data OneIs (u : ℕ) (js : List ℕ) (a b : ℕ) : Type 0 where
  first : a ≡ u → T (among js b) → OneIs u js a b
  second : T (among js a) → b ≡ u → OneIs u js a b

one_is : (u : ℕ) (js : List ℕ) (a b : ℕ) → T ((eqb a u && among js b) || (among js a && eqb b u)) → OneIs u js a b
one_is u js a b t = go (eqb a u && among js b) refl t
  where
    go : (x : Bool) → (eqb a u && among js b) ≡ x → T (x || (among js a && eqb b u)) → OneIs u js a b
    go true e v = first (eqb→eq a u (and_left (eqb a u) _ (to_T e))) (and_right (eqb a u) _ (to_T e))
    go false e v = second (and_left (among js a) _ v) (eqb→eq b u (and_right (among js a) _ v))

both_listed : {u : ℕ} {js : List ℕ} {a b : ℕ} → Listed u → T (all_listed js) → OneIs u js a b → Listed a × Listed b
both_listed {u} {js} {a} {b} l t (first e m) = (subst Listed (sym e) l, among_listed js t b m)
both_listed {u} {js} {a} {b} l t (second m e) = (among_listed js t a m, subst Listed (sym e) l)

uint128_listed : (a b : ℕ) → uint128_with_signed a b ≡ true → Listed a × Listed b
unfolding is_listed uint128_with_signed is_signed_integer
uint128_listed a b e =
    both_listed (omega arith) tt (one_is UInt128 (Int8 ∷ Int16 ∷ Int32 ∷ Int64 ∷ Int128 ∷ []) a b (to_T e))

uint64_is : (a b : ℕ) → uint64_with_signed a b ≡ true → OneIs UInt64 signed_to64 a b
unfolding uint64_with_signed
uint64_is a b e = one_is UInt64 signed_to64 a b (to_T e)

uint64_listed : (a b : ℕ) → uint64_with_signed a b ≡ true → Listed a × Listed b
unfolding is_listed
uint64_listed a b e = both_listed (omega arith) tt (uint64_is a b e)

-- a number of UInt64 is one of such a pair
pub uint64_logged : (a b : ℕ) → uint64_with_signed a b ≡ true → (z : ℤ) → Holds UInt64 z → Logged a b z
uint64_logged a b e z h = go (uint64_is a b e)
  where
    go : OneIs UInt64 signed_to64 a b → Logged a b z
    go (first f m) = left (subst (λ (k : ℕ). Holds k z) (sym f) h)
    go (second m f) = right (subst (λ (k : ℕ). Holds k z) (sym f) h)

-- ---- the laws

module _ (i s : Bool) (a b : ℕ) (p : Listed a) (q : Listed b) where
  answers : (t : ℕ) × (supertype i s (node a 0) (node b 0) ≡ Some (node t 0)) × ((t ≡ Float64 → ⊥) → Listed t)
  answers = (joined a b, is_joined a b p q i s, go (answered a b p q))
    where
      go : {t : ℕ} → Answered a b t → (t ≡ Float64 → ⊥) → Listed t
      go (float64 e f u x y) n = absurd (n f)
      go (integral e l k) n = l

  integers : (t : ℕ) → Listed t → supertype i s (node a 0) (node b 0) ≡ Some (node t 0)
      → (Includes t a × Includes t b) ↔ (uint128_with_signed a b ≡ false)
  integers t l e = go (told a b p q i s t e)
    where
      go : Answered a b t → (Includes t a × Includes t b) ↔ (uint128_with_signed a b ≡ false)
      go (float64 d f u x y) = absurd (omega arith)
      go (integral d l k) = k

  floats : (supertype i s (node a 0) (node b 0) ≡ Some (node Float64 0)) ↔ (uint64_with_signed a b ≡ true)
  floats = (there, back (answered a b p q))
    where
      there : supertype i s (node a 0) (node b 0) ≡ Some (node Float64 0) → uint64_with_signed a b ≡ true
      there e = go (told a b p q i s Float64 e)
        where
          go : Answered a b Float64 → uint64_with_signed a b ≡ true
          go (float64 d f u x y) = d
          go (integral d l k) = absurd (omega arith)

      back : Answered a b (joined a b) → uint64_with_signed a b ≡ true
          → supertype i s (node a 0) (node b 0) ≡ Some (node Float64 0)
      back (float64 d f u x y) e = is_joined a b p q i s ∙ ap (λ (t : ℕ). Some (node t 0)) f
      back (integral d l k) e = never (sym d ∙ e)

uint128 : (i s : Bool) (a b : ℕ) → uint128_with_signed a b ≡ true
    → supertype i s (node a 0) (node b 0) ≡ Some (node Int128 0)
unfolding joined
uint128 i s a b e = let l = uint128_listed a b e in is_joined a b l.0 l.1 i s ∙ rw e

avoidable : (a b : ℕ) → uint64_with_signed a b ≡ true → (upcast_of a b ≡ Some Int128) × Includes Int128 a × Includes Int128 b
avoidable a b e = let l = uint64_listed a b e in go (answered a b l.0 l.1)
  where
    go : {t : ℕ} → Answered a b t → (upcast_of a b ≡ Some Int128) × Includes Int128 a × Includes Int128 b
    go (float64 d f u x y) = (u, x, y)
    go (integral d l k) = never (sym d ∙ e)

merges : (a b : ℕ) → uint64_with_signed a b ≡ true → MadeOne a b
unfolding is_signed_integer among
merges a b e = record {
  one = pos (2 ^ 53);
  other = pos (2 ^ 53 + 1);
  differ = λ d. let z : ◌≡◌ {A = ℕ} (2 ^ 53) (2 ^ 53 + 1) = cc in omega arith;
  one_logged = uint64_logged a b e (pos (2 ^ 53)) (omega arith, tt);
  other_logged = uint64_logged a b e (pos (2 ^ 53 + 1)) (omega arith, tt);
  merged = merged;
}

pub number_laws : NumberLaws
number_laws = record {
  answers = answers;
  integers = λ i s a b t p q l. integers i s a b p q t l;
  uint128 = uint128;
  floats = floats;
  avoidable = avoidable;
  merges = merges;
  decimals = decimals;
  decimal_keeps = λ i s n t k e f l. decimal_keeps i s n k e f l t;
  decimal_misses = decimal_misses;
}
