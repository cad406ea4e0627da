-- How many digits a number has, and the largest numbers of the integer types. Assumes nothing.
use mathlib.Core.Path.{◌≡◌, sym, ap, ◌∙◌}
use mathlib.Core.Bool.{Bool, true, false, ◌&&◌}
use mathlib.Core.Logic.{◌↔◌}
use Prim.Native.Nat.{ℕ, suc, ◌+◌, ◌-◌, ◌*◌, ◌/◌, ◌^◌, ◌≤◌, ◌<◌}
use native.Mathlib.Nat.{one-le-pow, pow-le-pow_right, mul-le-mul_right, mul-lt-mul_of_pos_right}
use native.Mathlib.Omega.{arith}
use native.Mathlib.Decide.{dec_le}
use lib.Dec.{T, leb, ltb, eqb, eqb→eq, leb→le, le→leb, ltb→lt}
use lib.Pow.{pow-add}
use lib.IntN.{ℤ, pos, negsuc}
use borrow.Author.Tests.{lt-ltb, le-ltb, le-leb, lt-leb, leb-true}
use lib.Signed.{mag, ◌≤ℤ◌, le_z_yes}
use Rattle.flat.proofs.Rules.{and_left, and_right}
use Rattle.flat.proofs.Truths.{is_true, to_T}
use Rattle.dtype.specs.Match.{among}
use Rattle.dtype.specs.Predicate.{is_signed_integer}
use Rattle.supertype_numbers.specs.Integer.{in_range, width_of, bits_of, max_in, max_of}
use Rattle.supertype_numbers.specs.Range.{Listed, Holds}
use Rattle.supertype_numbers.specs.Decimal.{fits_dec128, DecimalHolds, Digits, digits_of, DigitLaws}
use Rattle.supertype_numbers.proofs.Tests.{at}
use Rattle.supertype_numbers.proofs.Ranges.{size, has_max}

-- ---- numbers

module _ {prec scale : ℕ} (h : scale ≤ prec) where
  -- the digits before the point, and those behind it
  parts : 10 ^ prec ≡ 10 ^ (prec - scale) * 10 ^ scale
  parts =
      let e : prec ≡ (prec - scale) + scale = omega arith in
      ap (λ (n : ℕ). 10 ^ n) e ∙ pow-add 10 (prec - scale) scale

  -- a number that d digits hold, and one that needs them
  room : (n d : ℕ) → n < 10 ^ d → d ≤ prec - scale → fits_dec128 n prec scale ≡ true
  unfolding fits_dec128
  room n d l g =
      let m : 10 ^ d ≤ 10 ^ (prec - scale) = pow-le-pow_right (omega arith) g in
      let o : n * 10 ^ scale < 10 ^ (prec - scale) * 10 ^ scale = mul-lt-mul_of_pos_right (omega arith)
      (one-le-pow scale 10 (omega arith)) in
      lt-ltb (n * 10 ^ scale) (10 ^ prec) (omega (arith, parts))

  no_room : (n d : ℕ) → 10 ^ (d - 1) ≤ n → prec - scale < d → fits_dec128 n prec scale ≡ false
  unfolding fits_dec128
  no_room n d l g =
      let m : 10 ^ (prec - scale) ≤ 10 ^ (d - 1) = pow-le-pow_right (omega arith) (omega arith) in
      let o : 10 ^ (prec - scale) * 10 ^ scale ≤ n * 10 ^ scale = mul-le-mul_right (10 ^ scale) (omega arith) in
      le-ltb (n * 10 ^ scale) (10 ^ prec) (omega (arith, parts))

fits_when : (n d prec scale : ℕ) → Digits n d → scale ≤ prec → fits_dec128 n prec scale ≡ leb d (prec - scale)
fits_when n d prec scale w h = go (dec_le d (prec - scale))
  where
    go : Dec (d ≤ prec - scale) → fits_dec128 n prec scale ≡ leb d (prec - scale)
    go (yes g) = room h n d w.enough g ∙ sym (le-leb d (prec - scale) g)
    go (no g) = no_room h n d w.needed (omega arith) ∙ sym (lt-leb d (prec - scale) (omega arith))

-- ---- the integer types

at_most : (s : Bool) (w : ℕ) (z : ℤ) → T (in_range s w z) → z ≤ℤ pos (max_in s w)
at_most s w (pos n) h = le_z_yes (le→leb n (max_in s w) (omega (arith, size s w (pos n) h)))
at_most s w (negsuc n) h = le_z_yes tt

-- the digits of a type hold its largest number and one more, which is how far its numbers below 0 go, and are needed
abbrev counted : ℕ → Bool
counted k = ltb (2 ^ bits_of k) (10 ^ digits_of k) && leb (10 ^ (digits_of k - 1)) (max_of k)

module _ (k : ℕ) (l : Listed k) where
  count : T (counted k)
  unfolding is_signed_integer among
  count = at counted tt k l

  hold : 2 ^ bits_of k < 10 ^ digits_of k
  hold = ltb→lt _ _ (and_left (ltb (2 ^ bits_of k) (10 ^ digits_of k)) _ count)

  need : 10 ^ (digits_of k - 1) ≤ max_of k
  need = leb→le _ _ (and_right (ltb (2 ^ bits_of k) (10 ^ digits_of k)) _ count)

  counts : Digits (max_of k) (digits_of k)
  counts = record { enough = omega (arith, hold); needed = need }

  -- a number of the type, by its size
  within : (z : ℤ) → Holds k z → mag z < 2 ^ bits_of k
  within z h = size (is_signed_integer k) (width_of k) z h.1

  all_fit : (prec scale : ℕ) → scale ≤ prec
      → ((z : ℤ) → Holds k z → DecimalHolds prec scale z) ↔ (digits_of k ≤ prec - scale)
  all_fit prec scale h = (there, back)
    where
      there : ((z : ℤ) → Holds k z → DecimalHolds prec scale z) → digits_of k ≤ prec - scale
      there f =
          let t = f (pos (max_of k)) (l, has_max (is_signed_integer k) (width_of k)) in
          leb-true (digits_of k) (prec - scale)
          (sym (fits_when (max_of k) (digits_of k) prec scale counts h) ∙ is_true _ t)

      back : digits_of k ≤ prec - scale → (z : ℤ) → Holds k z → DecimalHolds prec scale z
      back g (pos n) i = to_T (room h n (digits_of k) (omega (arith, hold, within (pos n) i)) g)
      back g (negsuc n) i = to_T (room h (suc n) (digits_of k) (omega (arith, hold, within (negsuc n) i)) g)

-- ---- the code's count

-- log10 2 is a little over 3 / 10; for no width of the table the difference comes to a digit
abbrev by_bits : ℕ → Bool
by_bits k = leb (bits_of k) 128 && eqb (3 * bits_of k / 10 + 1) (digits_of k)

module _ {k n : ℕ} (l : Listed k) (e : n ≡ bits_of k) where
  told : T (by_bits k)
  unfolding is_signed_integer among
  told = at by_bits tt k l

  pub few : n ≤ 128
  few = rw e (leb→le (bits_of k) 128 (and_left (leb (bits_of k) 128) _ told))

  pub counted_by_bits : 3 * n / 10 + 1 ≡ digits_of k
  counted_by_bits = rw e (eqb→eq _ _ (and_right (leb (bits_of k) 128) _ told))

pub digit_laws : DigitLaws
digit_laws =
    record {
      fits_when = fits_when;
      largest = λ s w. (has_max s w, at_most s w);
      counts = counts;
      all_fit = λ k prec scale l. all_fit k l prec scale;
    }
