-- Whether the supertype of two integer types keeps their numbers, and what each report says then. Assumes nothing.
use Rattle.std.specs.Prelude.{Option, None, Some}
use mathlib.Core.Path.{◌≡◌, refl, sym, subst, ◌∙◌}
use mathlib.Core.Bool.{Bool, true, false}
use mathlib.Core.Logic.{◌↔◌}
use Prim.Native.Nat.{ℕ, zero, suc, ◌+◌, ◌*◌, ◌^◌, ◌≤◌, ◌<◌}
use native.Mathlib.Nat.{pow-succ', mul_left_comm}
use native.Mathlib.Omega.{arith}
use lib.IntN.{ℤ, pos}
use borrow.Author.Tests.{ne_eqb}
use Rattle.flat.specs.Kind.{Int128, Float16, Float32, Float64}
use Rattle.flat.proofs.Truths.{impossible, never}
use Rattle.dtype.specs.Match.{among}
use Rattle.dtype.specs.Predicate.{is_signed_integer}
use Rattle.supertype_answer.specs.Join.{node}
use Rattle.supertype_numbers.specs.Range.{Listed, Holds, Includes}
use Rattle.supertype_numbers.specs.Format.{Format, binary64, format_of, WholeIn}
use Rattle.supertype_lossless.specs.Lossless.{upcast_of}
use Rattle.supertype_lossless.proofs.Laws.{lossless_laws}
use Rattle.supertype_arms.specs.Supertype.{supertype}
use Rattle.supertype_report.specs.Kept.{Has, integer, float, Kept}
use Rattle.supertype_report.specs.Laws.{Logged, left, right}
use Rattle.supertype_report.specs.Report.{Says, by_upcast}
use Rattle.supertype_report.proofs.Pairs.{Answered, float64, integral, kind_is, told, of_equal}
use Rattle.supertype_report.proofs.Laws.{uint64_logged}

-- a test that says no
pub no : {r : Bool} {X : Type 0} → (r ≡ true) ↔ X → r ≡ false → X → ⊥
no i e x = never (sym e ∙ i.1 x)

-- an integer type has only the numbers of its range
is_in_range : (t : ℕ) → t ≤ Int128 → (z : ℤ) → Has t z → Holds t z
unfolding format_of
is_in_range t l z (integer h) = h
is_in_range t l z (float f e w) =
    let n = rw (ne_eqb t Float16 (omega arith), ne_eqb t Float32 (omega arith), ne_eqb t Float64 (omega arith)) at e in
    impossible cc

-- 2 ^ 53 + 1, which is odd and no number of 53 bits
abbrev odd : ℤ
odd = pos (2 ^ 53 + 1)

not_double : WholeIn binary64 odd → ⊥
not_double w = go w.m w.q w.finite.significand w.is
  where
    go : (m q : ℕ) → m < 2 ^ 53 → 2 ^ 53 + 1 ≡ m * 2 ^ q → ⊥
    go m zero l e = omega arith
    go m (suc q) l e =
        let f : m * 2 ^ suc q ≡ 2 * (m * 2 ^ q) = rw (pow-succ' 2 q) (mul_left_comm m 2 (2 ^ q)) in omega arith

not_float64 : Has Float64 odd → ⊥
unfolding format_of
not_float64 (integer h) = omega arith
not_float64 (float f e w) = not_double (subst (λ (g : Format). WholeIn g odd) (let y : f ≡ binary64 = cc in y) w)

-- the supertype of two integer types is of the kind t
pub record OfKind (a b t : ℕ) : Type 0 where
  pub integers : Listed a × Listed b
  pub is : supertype false false (node a 0) (node b 0) ≡ Some (node t 0)

module _ {a b t : ℕ} (w : OfKind a b t) where
  pub keeps : Includes t a → Includes t b → Kept a b
  keeps f g = record { kind = t; is_supertype = w.is; left = λ z h. integer (f z h); right = λ z h. integer (g z h) }

  tells : Answered a b t
  tells = told a b w.integers.0 w.integers.1 false false t w.is

  has : (k : Kept a b) (z : ℤ) → Has k.kind z → Has t z
  has k z h =
      let kind = kind_is a b w.integers.0 w.integers.1 false false in
      subst (λ (j : ℕ). Has j z) (sym (kind k.kind k.is_supertype) ∙ kind t w.is) h

  pub listed : t ≤ Int128 → Listed t
  listed l = go tells
    where
      go : Answered a b t → Listed t
      go (float64 e f u x y) = absurd (omega arith)
      go (integral e m x) = m

  -- an integer type that misses one of the ranges
  pub misses : t ≤ Int128 → (Includes t a → Includes t b → ⊥) → Kept a b → ⊥
  misses l n k = n (λ z h. is_in_range t l z (has k z (k.left z h))) (λ z h. is_in_range t l z (has k z (k.right z h)))

  -- Float64, which has not every number of UInt64
  pub rounds : Int128 < t → Kept a b → ⊥
  unfolding is_signed_integer among
  rounds l k = go tells
    where
      logged : t ≡ Float64 → Logged a b odd → ⊥
      logged f (left h) = not_float64 (subst (λ (j : ℕ). Has j odd) f (has k odd (k.left odd h)))
      logged f (right h) = not_float64 (subst (λ (j : ℕ). Has j odd) f (has k odd (k.right odd h)))

      go : Answered a b t → ⊥
      go (float64 e f u x y) = logged f (uint64_logged a b e odd (omega arith, tt))
      go (integral e m x) = omega arith

-- ---- what is reported where numbers are lost

module _ {a b : ℕ} (l : Listed a × Listed b) (lost : Kept a b → ⊥) where
  -- of one type with itself nothing is lost
  differ : a ≡ b → ⊥
  differ e =
      lost (keeps (record { integers = l; is = of_equal e }) (λ z h. h)
      (λ z h. subst (λ (k : ℕ). Holds k z) (sym e) h))

  pub lossy : Says a b (by_upcast (upcast_of a b))
  lossy = go (upcast_of a b) refl
    where
      go : (u : Option ℕ) → upcast_of a b ≡ u → Says a b (by_upcast u)
      go (Some k) e =
          let m = (lossless_laws.least a b l.0 l.1 differ k).0 e in (l, lost, (k, m.is_listed_kind, m.covers))
      go None e = (l, lost, (lossless_laws.none a b l.0 l.1 differ).0 e)
