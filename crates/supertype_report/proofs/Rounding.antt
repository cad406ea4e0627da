-- roundTiesToEven is what its name says, and two numbers of which Float64 makes one. Assumes nothing.
use mathlib.Core.Path.{◌≡◌, refl, sym, ap, subst, ◌∙◌}
use mathlib.Core.Bool.{Bool, true, false, cond, ◌&&◌, ◌||◌}
use Rattle.std.specs.Prelude.{Some}
use Prim.Native.Nat.{ℕ, zero, suc, ◌+◌, ◌-◌, ◌*◌, ◌/◌, ◌%◌, ◌^◌, ◌≤◌, ◌<◌}
use native.Mathlib.Nat.{le_of_lt, lt_of_lt_of_le, lt_of_le_of_lt, not-le_of_lt, lt_of_not-le, ne_of_lt, add-mul}
use native.Mathlib.Nat.{mul_assoc, mul_left_comm, mul-le-mul_left, mul-le-mul_right, mul-lt-mul_of_pos_right}
use native.Mathlib.Nat.{div-add-mod', div-lt_iff_lt-mul, mod-lt, pow-succ'}
use native.Mathlib.Omega.{arith}
use native.Mathlib.Decide.{dec_le}
use lib.Dec.{ltb, eqb, ltb→lt, le→leb}
use lib.Pow.{pow_pos, pow_mono, pow-lt, pow-add}
use lib.IntN.{ℤ, pos, negsuc, neg_ℤ}
use lib.Signed.{mag, le_z_yes}
use borrow.Author.Tests.{ltb-true, ltb-false, eqb-true, eqb-false}
use Rattle.flat.specs.Kind.{Float64}
use Rattle.dtype.specs.Match.{among}
use Rattle.dtype.specs.Predicate.{is_signed_integer}
use Rattle.supertype_numbers.specs.Integer.{width_of, bits}
use Rattle.supertype_numbers.specs.Range.{Listed}
use Rattle.supertype_numbers.specs.Format.{Format, binary64, format_of, magnitude, WholeIn}
use Rattle.supertype_numbers.proofs.Tests.{at}
use Rattle.supertype_numbers.proofs.Ranges.{size}
use Rattle.supertype_report.specs.Rounding.{halvings, last_unit, nearest_quotient, nearest, as_float64, distance}
use Rattle.supertype_report.specs.Rounding.{RoundingLaws}

-- ---- the unit

-- n is below 2 ^ p of the units 2 ^ h, and not below 2 ^ p of a smaller one
record Last (p n h : ℕ) : Type 0 where
  below : n < 2 ^ p * 2 ^ h
  from : (g : ℕ) → g < h → 2 ^ p * 2 ^ g ≤ n

twice : (a h : ℕ) → a * 2 ^ suc h ≡ 2 * (a * 2 ^ h)
twice a h = rw (pow-succ' 2 h) (mul_left_comm a 2 (2 ^ h))

halved : (p n h : ℕ) → 2 ^ p ≤ n → Last p (n / 2) h → Last p n (suc h)
halved p n h i s = record { below = omega (arith, s.below, twice (2 ^ p) h); from = from }
  where
    from : (g : ℕ) → g < suc h → 2 ^ p * 2 ^ g ≤ n
    from zero j = omega arith
    from (suc g) j = omega (arith, s.from g (omega arith), twice (2 ^ p) g)

last : (most p n : ℕ) → n ≤ most → Last p n (halvings most p n)
unfolding halvings
last zero p n l = record { below = omega (arith, pow_pos p); from = λ g j. absurd (omega arith) }
last (suc most) p n l = go (ltb n (2 ^ p)) refl (last most p (n / 2) (omega arith))
  where
    go : (b : Bool) → ltb n (2 ^ p) ≡ b → Last p (n / 2) (halvings most p (n / 2))
        → Last p n (elim b [ true ↦ 0 | false ↦ suc (halvings most p (n / 2)) ])
    go true e s = record { below = omega (arith, ltb-true n (2 ^ p) e); from = λ g j. absurd (omega arith) }
    go false e s = halved p n (halvings most p (n / 2)) (ltb-false n (2 ^ p) e) s

-- ---- the multiples of the unit

module _ (n h : ℕ) where
  abbrev u : ℕ
  u = 2 ^ h

  abbrev c : ℕ
  c = n / u

  abbrev r : ℕ
  r = n % u

  parts : (c * u + r ≡ n) × (r < u) × ((c + 1) * u ≡ c * u + u)
  parts = (div-add-mod' n u, mod-lt n (pow_pos h), omega (arith, add-mul c 1 u))

  -- the quotient or the next, by the rest, and between the two the even one
  data Step : ℕ → Type 0 where
    down : 2 * r ≤ u → (u ≡ 2 * r → c % 2 ≡ 0) → Step (c + 0)
    up : u ≤ 2 * r → (u ≡ 2 * r → c % 2 ≡ 1) → Step (c + 1)

  step : Step (nearest_quotient n u)
  unfolding nearest_quotient
  step = go (ltb u (2 * r)) refl (eqb u (2 * r)) refl (eqb (c % 2) 1) refl
    where
      go : (a : Bool) → ltb u (2 * r) ≡ a → (b : Bool) → eqb u (2 * r) ≡ b → (o : Bool) → eqb (c % 2) 1 ≡ o
          → Step (c + cond (a || (b && o)) 1 0)
      go true e b f o g = let i = ltb-true u (2 * r) e in up (omega arith) (λ j. omega arith)
      go false e true f true g = up (omega (arith, eqb-true u (2 * r) f)) (λ j. eqb-true (c % 2) 1 g)
      go false e true f false g = down (omega (arith, eqb-true u (2 * r) f)) (λ j. omega (arith, eqb-false (c % 2) 1 g))
      go false e false f o g = down (ltb-false u (2 * r) e) (λ j. absurd (eqb-false u (2 * r) f j))

  next : (v : ℕ) → Step v → v ≤ c + 1
  next v (down a b) = omega arith
  next v (up a b) = omega arith

  -- each multiple is the quotient's or below, or the next or above
  data Side (k : ℕ) : Type 0 where
    under : k * u ≤ c * u → Side k
    over : c * u + u ≤ k * u → Side k

  side : (k : ℕ) → Side k
  side k = go (dec_le k c)
    where
      go : Dec (k ≤ c) → Side k
      go (yes l) = under (mul-le-mul_right u l)
      go (no l) = let i : (c + 1) * u ≤ k * u = mul-le-mul_right u (omega arith) in over (omega (arith, parts))

  near : (k v : ℕ) → Side k → Step v → distance n (v * u) ≤ distance n (k * u)
  near k v (under i) (down a b) = omega (arith, parts)
  near k v (over i) (down a b) = omega (arith, parts)
  near k v (under i) (up a b) = omega (arith, parts)
  near k v (over i) (up a b) = omega (arith, parts)

  tie : (k v : ℕ) → Side k → Step v → distance n (k * u) ≡ distance n (v * u) → (k * u ≡ v * u → ⊥) → v % 2 ≡ 0
  tie k v (under i) (down a b) d x = absurd (x (omega (arith, parts)))
  tie k v (over i) (down a b) d x = let e = b (omega (arith, parts)) in omega arith
  tie k v (under i) (up a b) d x = let e = b (omega (arith, parts)) in omega arith
  tie k v (over i) (up a b) d x = absurd (x (omega (arith, parts)))

-- ---- what p bits can write

-- 2 ^ suc p units are half as many of the next
carried : (p h : ℕ) → 2 ^ suc p * 2 ^ h ≡ 2 ^ p * 2 ^ suc h
carried p h = rw (pow-succ' 2 p) (mul_assoc 2 (2 ^ p) (2 ^ h) ∙ sym (twice (2 ^ p) h))

-- v of the units 2 ^ h, written with p bits, the last of them 0 if v is even
record Written (p v h : ℕ) : Type 0 where
  m : ℕ
  q : ℕ
  low : m < 2 ^ p
  is : v * 2 ^ h ≡ m * 2 ^ q
  even : 2 ≤ p → v % 2 ≡ 0 → m % 2 ≡ 0
  close : q ≤ suc h

written : (p v h : ℕ) → 1 ≤ p → v ≤ 2 ^ p → Written p v h
written zero v h i l = absurd (omega arith)
written (suc p) v h i l = go (dec_le (2 ^ suc p) v)
  where
    even : (p : ℕ) → 2 ≤ suc p → 2 ^ p % 2 ≡ 0
    even zero j = absurd (omega arith)
    even (suc p) j = omega (arith, pow-succ' 2 p)

    go : Dec (2 ^ suc p ≤ v) → Written (suc p) v h
    go (yes j) =
        let e : v ≡ 2 ^ suc p = omega arith in
        record {
          m = 2 ^ p;
          q = suc h;
          low = omega (arith, pow-succ' 2 p, pow_pos p);
          is = rw e
              (carried p h);
          even = λ d f. even p d;
          close = omega arith;
        }
    go (no j) = record { m = v; q = h; low = omega arith; is = refl; even = λ d f. f; close = omega arith }

-- each such number is a multiple of the unit, or farther from n than one
data Beside (n u x : ℕ) : Type 0 where
  multiple : (k : ℕ) → k * u ≡ x → Beside n u x
  farther : (k : ℕ) → distance n (k * u) < distance n x → Beside n u x

beside : (p n m q h : ℕ) → 1 ≤ p → m < 2 ^ p → Last p n h → Beside n (2 ^ h) (m * 2 ^ q)
beside zero n m q h i l s = absurd (omega arith)
beside (suc p) n m q h i l s = go h s (dec_le h q)
  where
    go : (h : ℕ) → Last (suc p) n h → Dec (h ≤ q) → Beside n (2 ^ h) (m * 2 ^ q)
    go h s (yes j) =
        let e : q ≡ q - h + h = omega arith in
        multiple (m * 2 ^ (q - h))
        (mul_assoc m (2 ^ (q - h)) (2 ^ h)
        ∙ ap (λ (x : ℕ). m * x) (sym (ap (λ (x : ℕ). 2 ^ x) e ∙ pow-add 2 (q - h) h)))
    go zero s (no j) = absurd (omega arith)
    go (suc g) s (no j) =
        let x : m * 2 ^ q < 2 ^ suc p * 2 ^ q = mul-lt-mul_of_pos_right l (pow_pos q) in
        let y : 2 ^ suc p * 2 ^ q ≤ 2 ^ suc p * 2 ^ g = mul-le-mul_left (2 ^ suc p) (pow_mono (omega arith)) in
        farther (2 ^ p) (omega (arith, carried p g, s.from g (omega arith)))

-- ---- the laws

module _ (p n : ℕ) where
  abbrev h : ℕ
  h = halvings n p n

  abbrev v : ℕ
  v = nearest_quotient n (2 ^ h)

  unit : Last p n h
  unit = last n p n (omega arith)

  rounded : 1 ≤ p → Written p v h
  rounded i =
      let l : n / 2 ^ h < 2 ^ p = (div-lt_iff_lt-mul (pow_pos h)).1 unit.below in
      written p v h i (omega (arith, next n h v (step n h)))

  as_near : (k : ℕ) → distance n (v * 2 ^ h) ≤ distance n (k * 2 ^ h)
  as_near k = near n h k v (side n h k) (step n h)

  nearer : (x : ℕ) → Beside n (2 ^ h) x → distance n (v * 2 ^ h) ≤ distance n x
  nearer x (multiple k e) = omega (arith, as_near k)
  nearer x (farther k a) = le_of_lt (lt_of_le_of_lt (as_near k) a)

  even : (x : ℕ) → Beside n (2 ^ h) x → distance n x ≡ distance n (v * 2 ^ h) → (x ≡ v * 2 ^ h → ⊥) → v % 2 ≡ 0
  even x (multiple k e) d f = tie n h k v (side n h k) (step n h) (ap (distance n) e ∙ d) (λ y. f (sym e ∙ y))
  even x (farther k a) d f = absurd (ne_of_lt (lt_of_le_of_lt (as_near k) a) (sym d))

  -- the unit of a number of at most p bits is 1
  kept : n < 2 ^ p → v * 2 ^ h ≡ n
  kept l =
      let j : h < 1 = lt_of_not-le (λ g. not-le_of_lt l (let x = unit.from 0 g in omega arith)) in
      let f : n * 2 ^ h ≡ n = rw (let e : h ≡ 0 = omega arith in e) (omega arith) in
      omega (arith, as_near n)

-- ---- Float64

-- the bits of its significand
abbrev p64 : ℕ
p64 = binary64.precision

-- by the table of formats
the_format : (f : Format) → format_of Float64 ≡ Some f → f ≡ binary64
unfolding format_of
the_format f e = cc

-- a whole number of at most so many bits, whichever its sign, is kept
whole : (z : ℤ) → magnitude z < 2 ^ p64 → as_float64 z ≡ z
unfolding as_float64 nearest last_unit
whole (pos n) l = ap pos (kept p64 n l)
whole (negsuc n) l = ap (λ (m : ℕ). neg_ℤ (pos m)) (kept p64 (suc n) l)

-- a number of up to 129 bits, whichever its sign, goes to one of Float64's format
in_format : (n : ℕ) → n < 2 ^ 129 → (z : ℤ) → magnitude z ≡ nearest p64 n → WholeIn binary64 z
unfolding nearest last_unit
in_format n l z e = record {
  m = w.m;
  q = w.q;
  finite =
      record {
        significand = w.low;
        least = le_z_yes tt;
        most = le_z_yes (le→leb w.q 971 (omega (arith, w.close, few)));
      };
  is = e ∙ w.is;
}
  where
    w : Written p64 (v p64 n) (h p64 n)
    w = rounded p64 n (omega arith)

    few : h p64 n < 77
    few = lt_of_not-le (λ g. not-le_of_lt l ((unit p64 n).from 76 g))

-- the integer types' numbers have no more
few_bits : (k : ℕ) → Listed k → 2 ^ bits (is_signed_integer k) (width_of k) < 2 ^ 129
unfolding is_signed_integer among
few_bits k l =
    pow-lt (ltb→lt (bits (is_signed_integer k) (width_of k)) 129
    (at (λ k. ltb (bits (is_signed_integer k) (width_of k)) 129) tt k l))

integers : (k : ℕ) (z : ℤ) → Listed k → mag z < 2 ^ bits (is_signed_integer k) (width_of k)
    → WholeIn binary64 (as_float64 z)
unfolding as_float64
integers k (pos n) l i = in_format n (lt_of_lt_of_le i (le_of_lt (few_bits k l))) (pos (nearest p64 n)) refl
integers k (negsuc n) l i =
    in_format (suc n) (lt_of_le_of_lt i (few_bits k l)) (neg_ℤ (pos (nearest p64 (suc n)))) (go (nearest p64 (suc n)))
  where
    go : (n : ℕ) → magnitude (neg_ℤ (pos n)) ≡ n
    go zero = refl
    go (suc n) = refl

pub rounding_laws : RoundingLaws
unfolding nearest last_unit
rounding_laws = record {
  kept = kept;
  fits = λ p n i. let w = rounded p n i in (w.m, w.q, w.low, w.is);
  nearer = λ p n m q i l. nearer p n (m * 2 ^ q) (beside p n m q (h p n) i l (unit p n));
  even = λ p n m q i l d x.
      let j : 1 ≤ p = omega arith in
      let w = rounded p n j in
      (w.m, w.q, w.low, w.even i (even p n (m * 2 ^ q) (beside p n m q (h p n) j l (unit p n)) d x), w.is);
  whole = λ z f e l. whole z (subst (λ (g : Format). magnitude z < 2 ^ g.precision) (the_format f e) l);
  in_format =
      λ k z f e w. subst (λ (g : Format). WholeIn g (as_float64 z)) (sym (the_format f e))
      (integers k z w.0 (size (is_signed_integer k) (width_of k) z w.1));
}

-- 2 ^ 53 + 1 lies between two numbers of the format and goes to the even one, 2 ^ 53
pub merged : as_float64 (pos (2 ^ 53)) ≡ as_float64 (pos (2 ^ 53 + 1))
unfolding as_float64 nearest last_unit nearest_quotient halvings
merged = refl
