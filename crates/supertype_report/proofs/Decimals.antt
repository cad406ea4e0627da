-- What a Decimal keeps of the numbers of an integer type that it is joined with. Assumes nothing.
use Rattle.std.specs.Prelude.{Some}
use mathlib.Core.Path.{◌≡◌, refl, sym, subst, ◌∙◌}
use mathlib.Core.Bool.{Bool, true}
use mathlib.Core.Logic.{◌↔◌}
use Prim.Native.Nat.{ℕ, ◌-◌, ◌≤◌, ◌<◌}
use native.Mathlib.Omega.{arith}
use native.Mathlib.Decide.{dec_le}
use lib.IntN.{ℤ, pos}
use borrow.Author.Tests.{le-leb, lt-leb, leb-true}
use Rattle.flat.specs.Kind.{Decimal}
use Rattle.flat.specs.Argument.{dec128_max_prec}
use Rattle.flat.proofs.Truths.{is_true}
use Rattle.flat.specs.declared.Node.{Node}
use Rattle.supertype_answer.specs.Join.{node}
use Rattle.dtype.specs.Predicate.{is_signed_integer}
use Rattle.supertype_numbers.specs.Integer.{width_of, max_of}
use Rattle.supertype_numbers.specs.Range.{Listed, Holds}
use Rattle.supertype_numbers.specs.Decimal.{DecimalHolds, digits_of}
use Rattle.supertype_numbers.proofs.Digits.{digit_laws}
use Rattle.supertype_arms.specs.Node.{precision, scale, fits}
use Rattle.supertype_arms.specs.Supertype.{supertype}
use Rattle.supertype_arms.specs.Laws.{by_digits}
use Rattle.supertype_arms.proofs.Decimals.{IsDecimal, most, within}
use Rattle.supertype_arms.proofs.Recursive.{supertype_laws}

-- the precision that a Decimal has beside an integer type, and the digits that it is enough for
record Becomes (n : Node) (k prec : ℕ) : Type 0 where
  precision_is : precision (by_digits n k) ≡ prec
  scale_is : scale (by_digits n k) ≡ scale n
  no_less : precision n ≤ prec
  enough : (digits_of k ≤ prec - scale n) ↔ (digits_of k ≤ dec128_max_prec - scale n)

becomes : {n : Node} → IsDecimal n → (k : ℕ) → (prec : ℕ) × Becomes n k prec
becomes {n} w k = go (dec_le (digits_of k) (precision n - scale n))
  where
    go : Dec (digits_of k ≤ precision n - scale n) → (prec : ℕ) × Becomes n k prec
    go (yes h) =
        let b = le-leb (digits_of k) (precision n - scale n) h in (
          precision n,
          record {
            precision_is = rw b (omega arith);
            scale_is = rw b (omega arith);
            no_less = omega arith;
            enough = ((λ g. omega (arith, most w)), (λ g. h));
          },
        )
    go (no h) =
        let b = lt-leb (digits_of k) (precision n - scale n) (omega arith) in (
          dec128_max_prec,
          record {
            precision_is = rw b (omega arith);
            scale_is = rw b (omega arith);
            no_less = most w;
            enough = ((λ g. g), (λ g. g));
          },
        )

module _ (i s : Bool) (n : Node) (k : ℕ) (e : n.kind ≡ Decimal) (f : fits n ≡ true) (l : Listed k) where
  abbrev w : IsDecimal n
  w = record { kind = e; fitting = f }

  pub decimals : (t : Node) × (supertype i s n (node k 0) ≡ Some t) × (supertype i s (node k 0) n ≡ Some t)
      × (t.kind ≡ Decimal) × (scale t ≡ scale n) × (precision n ≤ precision t)
  decimals =
      let a = supertype_laws.decimal_integer i s n k e f l in
      let b = (becomes w k).1 in
      let more : precision n ≤ precision (by_digits n k) = omega (arith, b.precision_is, b.no_less) in
      (by_digits n k, a.0, a.1, refl, b.scale_is, more)

  -- every number of the integer column is one of the Decimal
  abbrev Keeps : Node → Type 0
  Keeps t = (z : ℤ) → Holds k z → DecimalHolds (precision t) (scale t) z

  pub decimal_keeps : (t : Node) → supertype i s n (node k 0) ≡ Some t
      → Keeps t ↔ (digits_of k ≤ dec128_max_prec - scale n)
  decimal_keeps t g =
      let a = (supertype_laws.decimal_integer i s n k e f l).0 in
      let same : by_digits n k ≡ t = cc in
      subst (λ (m : Node). Keeps m ↔ (digits_of k ≤ dec128_max_prec - scale n)) same go
    where
      go : Keeps (by_digits n k) ↔ (digits_of k ≤ dec128_max_prec - scale n)
      go =
          let b = (becomes w k).1 in
          let all = digit_laws.all_fit k (becomes w k).0 (scale n) l (omega (arith, within w, b.no_less)) in
          rw (b.precision_is, b.scale_is) ((λ h. b.enough.0 (all.0 h)), (λ h. all.1 (b.enough.1 h)))

pub decimal_misses : (k prec scale : ℕ) → Listed k → scale ≤ prec → prec ≤ dec128_max_prec
    → dec128_max_prec - scale < digits_of k → Holds k (pos (max_of k)) × (DecimalHolds prec scale (pos (max_of k)) → ⊥)
decimal_misses k prec scale l g m h = ((l, (digit_laws.largest (is_signed_integer k) (width_of k)).0), lost)
  where
    lost : DecimalHolds prec scale (pos (max_of k)) → ⊥
    lost t =
        let e = digit_laws.fits_when (max_of k) (digits_of k) prec scale (digit_laws.counts k l) g in
        omega (arith, leb-true (digits_of k) (prec - scale) (sym e ∙ is_true _ t))
