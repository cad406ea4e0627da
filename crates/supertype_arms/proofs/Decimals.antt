-- A Decimal beside an integer type: the definition's test is document 02's, and both orders answer by it. Assumes
-- nothing.
use mathlib.Core.Path.{◌≡◌, sym, ap, ◌∙◌}
use mathlib.Core.Bool.{Bool, true, false, not, ◌&&◌, ◌||◌, or-true}
use Prim.Native.Nat.{ℕ, ◌+◌, ◌-◌, ◌*◌, ◌≤◌}
use native.Mathlib.Omega.{arith}
use native.Mathlib.Decide.{ℕ_discrete}
use lib.Dec.{T, leb}
use borrow.Author.Tests.{eq-eqb, ne_eqb, le-leb, lt-leb, leb-true}
use Rattle.flat.specs.Kind.{UInt128, Int128, Decimal}
use Rattle.flat.specs.Argument.{dec128_max_prec, decimal_fits, argument_fits, argument_rule}
use Rattle.flat.proofs.Rules.{and_left, and_right}
use Rattle.flat.proofs.Truths.{both_true}
use Rattle.dtype.proofs.Pairs.{left_known}
use Rattle.supertype_numbers.specs.Integer.{max_of}
use Rattle.supertype_numbers.specs.Range.{Listed}
use Rattle.supertype_numbers.specs.Decimal.{fits_dec128, digits_of}
use Rattle.supertype_numbers.proofs.Tests.{at}
use Rattle.supertype_numbers.proofs.Digits.{digit_laws}
use Rattle.flat.specs.declared.Node.{Node}
use Rattle.supertype_answer.specs.Join.{node}
use Rattle.std.specs.Prelude.{None, Some}
use Rattle.supertype_arms.specs.declared.plan.Plan.TheVariants.{DecimalInteger}
use Rattle.supertype_arms.specs.Node.{precision, scale, decimal, same, fits}
use Rattle.supertype_arms.specs.Supertype.{is, plan_of, Call, fits_orig_prec_scale, beside_integer, run}
use Rattle.supertype_arms.specs.Supertype.{known_supertype, supertype}
use Rattle.supertype_arms.specs.Laws.{by_digits}
use Rattle.supertype_arms.proofs.Areas.{alike, alike_eq, right_at}
use Rattle.supertype_arms.proofs.Answers.{tries, same_sym, of_flag}

-- a type of the kind Decimal
pub record IsDecimal (n : Node) : Type 0 where
  pub kind : n.kind ≡ Decimal
  pub fitting : fits n ≡ true

module _ {n : Node} (w : IsDecimal n) where
  -- document 01's rule of the argument
  rule : decimal_fits n.arg ≡ true
  unfolding fits argument_fits argument_rule
  rule = (rw w.kind at w).fitting

  pub least : 1 ≤ precision n
  least =
      leb-true 1 (precision n)
      (both_true (leb 1 (precision n)) _
      (both_true (leb 1 (precision n) && leb (precision n) dec128_max_prec) _ rule).0).0

  pub most : precision n ≤ dec128_max_prec
  most =
      leb-true (precision n) dec128_max_prec
      (both_true (leb 1 (precision n)) _
      (both_true (leb 1 (precision n) && leb (precision n) dec128_max_prec) _ rule).0).1

  pub within : scale n ≤ precision n
  within =
      leb-true (scale n) (precision n) (both_true (leb 1 (precision n) && leb (precision n) dec128_max_prec) _ rule).1

  module _ {k : ℕ} (l : Listed k) where
    -- the types that the definition doesn't ask for their largest number have more digits than any Decimal
    fits_by_digits : fits_orig_prec_scale n k ≡ leb (digits_of k) (precision n - scale n)
    unfolding fits_orig_prec_scale
    fits_by_digits = go (ℕ_discrete k UInt128) (ℕ_discrete k Int128)
      where
        too_many : digits_of k ≡ 39 → false ≡ leb (digits_of k) (precision n - scale n)
        too_many e = sym (lt-leb (digits_of k) (precision n - scale n) (omega (arith, most)))

        go : Dec (k ≡ UInt128) → Dec (k ≡ Int128)
            → (not (is UInt128 k || is Int128 k) && fits_dec128 (max_of k) (precision n) (scale n))
            ≡ leb (digits_of k) (precision n - scale n)
        go (yes e) d = rw (eq-eqb k UInt128 e) (too_many (ap digits_of e))
        go (no e) (yes f) = rw (eq-eqb k Int128 f, or-true) (too_many (ap digits_of f))
        go (no e) (no f) =
            rw (ne_eqb k UInt128 e, ne_eqb k Int128 f)
            (digit_laws.fits_when (max_of k) (digits_of k) (precision n) (scale n) (digit_laws.counts k l) within)

    beside : beside_integer n k ≡ by_digits n k
    unfolding beside_integer
    beside = rw fits_by_digits

    -- what the code compares
    pub kept : digits_of k ≤ precision n - scale n → n ≡ beside_integer n k
    kept h =
        let e : n.arg ≡ 256 * scale n + precision n = omega arith in
        sym (beside ∙ rw (le-leb (digits_of k) (precision n - scale n) h, ← e) (λ i. node (sym w.kind i) n.arg))

    pub raised : (digits_of k ≤ precision n - scale n → ⊥) → decimal dec128_max_prec (scale n) ≡ beside_integer n k
    raised h = sym (beside ∙ rw (lt-leb (digits_of k) (precision n - scale n) (omega arith)))

-- ---- both orders

-- one order has the arm, and the other has none
unfoldable one_arm : Bool → ℕ → Bool
unfolding right_at
one_arm s k = alike (plan_of s Decimal k) (Some DecimalInteger) && alike (plan_of s k Decimal) None

module _ (s : Bool) (k : ℕ) (l : Listed k) where
  arm_told : T (one_arm s k)
  arm_told = of_flag (λ s. one_arm s k) (at (λ k. one_arm true k && one_arm false k) (unfold one_arm in tt) k l) s

  has_arm : plan_of s Decimal k ≡ Some DecimalInteger
  unfolding one_arm
  has_arm = alike_eq _ _ (and_left (alike (plan_of s Decimal k) (Some DecimalInteger)) _ arm_told)

  no_arm : plan_of s k Decimal ≡ None
  unfolding one_arm
  no_arm = alike_eq _ _ (and_right (alike (plan_of s Decimal k) (Some DecimalInteger)) _ arm_told)

module _ (i s : Bool) {n : Node} (w : IsDecimal n) (k : ℕ) (l : Listed k) where
  differ : same (node k 0) n ≡ false
  differ = left_known k 0 n.kind n.arg (omega (arith, w.kind)) (omega arith) (omega arith)

  has : plan_of s n.kind k ≡ Some DecimalInteger
  has = ap (λ (a : ℕ). plan_of s a k) w.kind ∙ has_arm s k l

  has_none : plan_of s k n.kind ≡ None
  has_none = ap (plan_of s k) w.kind ∙ no_arm s k l

  answer : (call : Call) → run call DecimalInteger n (node k 0) ≡ Some (by_digits n k)
  unfolding run
  answer call = rw (eq-eqb n.kind Decimal w.kind) (ap Some (beside w l))

  decimal_left : supertype i s n (node k 0) ≡ Some (by_digits n k)
  unfolding supertype
  decimal_left = tries known_supertype s n (node k 0) (same_sym n (node k 0) ∙ differ) ∙ rw (has, answer known_supertype)

  decimal_right : supertype i s (node k 0) n ≡ Some (by_digits n k)
  unfolding supertype run
  decimal_right = tries known_supertype s (node k 0) n differ ∙ rw (has_none, has) (answer known_supertype)

pub decimal_integer : (i s : Bool) (n : Node) (k : ℕ) → n.kind ≡ Decimal → fits n ≡ true → Listed k
    → (supertype i s n (node k 0) ≡ Some (by_digits n k)) × (supertype i s (node k 0) n ≡ Some (by_digits n k))
decimal_integer i s n k e f l =
    let w : IsDecimal n = record { kind = e; fitting = f } in (decimal_left i s w k l, decimal_right i s w k l)
