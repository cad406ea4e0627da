-- The report says what is so, and nothing else is: of any two kinds exactly one report is true. Assumes nothing.
use mathlib.Core.Path.{◌≡◌, refl, sym, ◌∙◌}
use mathlib.Core.Bool.{Bool, true, false, cond, ◌&&◌, ◌||◌}
use Prim.Native.Nat.{ℕ}
use native.Mathlib.Omega.{arith}
use Rattle.flat.proofs.Truths.{never}
use Rattle.supertype_numbers.specs.Range.{Listed, is_listed}
use Rattle.supertype_numbers.proofs.Tests.{listed, not_listed}
use Rattle.supertype_lossless.specs.Lossless.{upcast_of}
use Rattle.supertype_report.specs.Laws.{uint128_with_signed, uint64_with_signed}
use Rattle.supertype_report.specs.Report.{Says, by_upcast, report_of, ReportLaws}
use Rattle.supertype_report.specs.declared.Report.{Report}
use Rattle.supertype_report.proofs.Pairs.{joined, is_joined, Answered, float64, integral, answered}
use Rattle.supertype_report.proofs.Keeping.{OfKind, keeps, misses, rounds, lossy}

-- ---- at most one

module _ (x y : ℕ) where
  one : (a b : Report) → Says x y a → Says x y b → a ≡ b
  one Report.Kept Report.Kept h k = refl
  one Report.Kept Report.Avoidable h k = absurd (k.1 h.1)
  one Report.Kept Report.Unavoidable h k = absurd (k.1 h.1)
  one Report.Kept Report.NotIntegers h k = absurd (k h.0)
  one Report.Avoidable Report.Kept h k = absurd (h.1 k.1)
  one Report.Avoidable Report.Avoidable h k = refl
  one Report.Avoidable Report.Unavoidable h k = absurd (k.2 h.2)
  one Report.Avoidable Report.NotIntegers h k = absurd (k h.0)
  one Report.Unavoidable Report.Kept h k = absurd (h.1 k.1)
  one Report.Unavoidable Report.Avoidable h k = absurd (h.2 k.2)
  one Report.Unavoidable Report.Unavoidable h k = refl
  one Report.Unavoidable Report.NotIntegers h k = absurd (k h.0)
  one Report.NotIntegers Report.Kept h k = absurd (h k.0)
  one Report.NotIntegers Report.Avoidable h k = absurd (h k.0)
  one Report.NotIntegers Report.Unavoidable h k = absurd (h k.0)
  one Report.NotIntegers Report.NotIntegers h k = refl

-- ---- the definition's is so

of_integers : {a b : ℕ} → Listed a × Listed b
    → Says a b (cond (uint64_with_signed a b || uint128_with_signed a b) (by_upcast (upcast_of a b)) Report.Kept)
of_integers {a} {b} p = go (answered a b p.0 p.1) (uint64_with_signed a b) (uint128_with_signed a b) refl refl
  where
    w : OfKind a b (joined a b)
    w = record { integers = p; is = is_joined a b p.0 p.1 false false }

    go : Answered a b (joined a b) → (x y : Bool) → uint64_with_signed a b ≡ x → uint128_with_signed a b ≡ y
        → Says a b (cond (x || y) (by_upcast (upcast_of a b)) Report.Kept)
    go (float64 e f u v z) true y h g = lossy p (rounds w (omega arith))
    go (float64 e f u v z) false y h g = never (sym h ∙ e)
    go (integral e l k) true y h g = never (sym e ∙ h)
    go (integral e l k) false true h g = lossy p (misses w l.1 (λ v z. never (sym (k.0 (v, z)) ∙ g)))
    go (integral e l k) false false h g = (p, keeps w (k.1 g).0 (k.1 g).1)

means : (a b : ℕ) → Says a b (report_of a b)
unfolding report_of
means a b = go (is_listed a) (is_listed b) refl refl
  where
    go : (x y : Bool) → is_listed a ≡ x → is_listed b ≡ y
        → Says a b
        (cond (x && y) (cond (uint64_with_signed a b || uint128_with_signed a b) (by_upcast (upcast_of a b)) Report.Kept)
        Report.NotIntegers)
    go true true e f = of_integers (listed e, listed f)
    go true false e f = λ h. not_listed f h.1
    go false y e f = λ h. not_listed e h.0

pub report_laws : ReportLaws
report_laws = record { means = means; only = λ a b r h. one a b r (report_of a b) h (means a b) }
