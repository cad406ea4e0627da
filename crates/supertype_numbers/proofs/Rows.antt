-- The fixed table of the integer types: the row of each, and what comparing two of them tells. Assumes nothing.
use mathlib.Core.Path.{◌≡◌, refl, sym, ap, ap₂, ◌∙◌}
use mathlib.Core.Bool.{Bool, true, false, not, ◌&&◌, ◌||◌}
use mathlib.Core.Logic.{◌↔◌}
use mathlib.Core.List.{List, [], ◌∷◌}
use Prim.Native.Nat.{ℕ, zero, suc, ◌+◌, ◌-◌, ◌≤◌, ◌<◌}
use native.Mathlib.Omega.{arith}
use native.Mathlib.Decide.{ℕ_discrete as dec_eq}
use lib.Dec.{leb, ltb, ltb→lt}
use lib.ListN.{get_or}
use Rattle.flat.specs.Kind
use Rattle.flat.proofs.Truths.{is_true, to_T}
use Rattle.dtype.specs.Match.{among}
use Rattle.supertype_numbers.specs.declared.integer.IntegerType.{IntegerType}
use Rattle.supertype_numbers.specs.Integer.{width_of, bits, bits_of}
use Rattle.supertype_numbers.specs.Range.{Listed, Includes}
use Rattle.supertype_numbers.specs.Table.{row_of}
use Rattle.supertype_numbers.proofs.Tests.{at}
use Rattle.supertype_numbers.proofs.Ranges.{inside, includes}

-- the rows of the n kinds from lo on
abbrev rows_from : ℕ → ℕ → List IntegerType
rows_from lo zero = []
rows_from lo (suc n) = row_of lo ∷ rows_from (suc lo) n

row_from : (lo n k : ℕ) (d : IntegerType) → lo ≤ k → k < lo + n → get_or (rows_from lo n) (k - lo) d ≡ row_of k
row_from lo zero k d l h = absurd (omega arith)
row_from lo (suc n) k d l h = go (dec_eq k lo) (λ m. row_from (suc lo) n k d m (omega arith))
  where
    go : Dec (k ≡ lo) → (suc lo ≤ k → get_or (rows_from (suc lo) n) (k - suc lo) d ≡ row_of k) → get_or (rows_from lo (suc n)) (k - lo) d ≡ row_of k
    go (yes e) rest = let z : k - lo ≡ 0 = omega arith in rw z (ap row_of (sym e))
    go (no n) rest = let z : k - lo ≡ suc (k - suc lo) = omega arith in rw z (rest (omega arith))

pub row_at : (k : ℕ) → Listed k → get_or (rows_from Kind.UInt8 10) (k - Kind.UInt8) (record { width = 0; signed = false }) ≡ row_of k
row_at k l = row_from Kind.UInt8 10 k _ l.0 (omega arith)

-- what the code compares: the signs of two rows, then the bits beside them
abbrev pub signs : IntegerType → IntegerType → Bool
signs a b = a.signed || not b.signed

abbrev pub compared : IntegerType → IntegerType → Bool
compared a b = signs a b && leb (bits b.signed b.width) (bits a.signed a.width)

compared_inside : (t k : ℕ) → compared (row_of t) (row_of k) ≡ inside t k
unfolding row_of
compared_inside t k = refl

-- two listed kinds, and their rows
pub record TwoRows : Type 0 where
  pub t : ℕ
  pub k : ℕ
  pub a : IntegerType
  pub b : IntegerType
  pub listed : Listed t × Listed k
  pub left : a ≡ row_of t
  pub right : b ≡ row_of k

-- an answer that compares the rows tells whether one range includes the other
pub told : (p : TwoRows) {r : Bool} → r ≡ compared p.a p.b → (r ≡ true) ↔ Includes p.t p.k
told p {r} e =
    let i = includes p.t p.k p.listed.0 p.listed.1 in
    let h : r ≡ inside p.t p.k = e ∙ ap₂ compared p.left p.right ∙ compared_inside p.t p.k in
    ((λ y. i.1 (to_T (sym h ∙ y))), (λ n. h ∙ is_true (inside p.t p.k) (i.0 n)))

-- by the signs alone, where they don't fit, else by the bits
module _ (p : TwoRows) {s : Bool} (is : s ≡ signs p.a p.b) where
  pub signs_told : s ≡ false → (s ≡ true) ↔ Includes p.t p.k
  signs_told e = told p (e ∙ ap (λ (x : Bool). x && leb (bits p.b.signed p.b.width) (bits p.a.signed p.a.width)) (sym e ∙ is))

  pub bits_told : s ≡ true → {m n : ℕ} → m ≡ bits p.b.signed p.b.width → n ≡ bits p.a.signed p.a.width
      → (leb m n ≡ true) ↔ Includes p.t p.k
  bits_told e {m} {n} f g = told p (ap₂ leb f g ∙ ap (λ (x : Bool). x && leb (bits p.b.signed p.b.width) (bits p.a.signed p.a.width)) (sym e ∙ is))

-- ---- the bits beside the sign

module _ {k : ℕ} {row : IntegerType} (l : Listed k) (e : row ≡ row_of k) where
  pub not_zero : 0 < row.width
  unfolding row_of among
  not_zero = rw e (ltb→lt 0 (width_of k) (at (λ n. ltb 0 (width_of n)) tt k l))

  pub bits_of_lem : bits row.signed row.width ≡ bits_of k
  unfolding row_of
  bits_of_lem = ap (λ (r : IntegerType). bits r.signed r.width) e
