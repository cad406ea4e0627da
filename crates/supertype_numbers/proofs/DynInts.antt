-- The dyn integer helpers: the first of some types that holds v, by bounds on its argument. Assumes nothing.
use mathlib.Core.Path.{◌≡◌, refl, sym, ◌∙◌}
use mathlib.Core.Bool.{Bool, true, false, not, cond, ◌&&◌, ◌||◌}
use mathlib.Core.List.{List, [], ◌∷◌}
use Prim.Native.Nat.{ℕ, ◌^◌, ◌≤◌, ◌<◌}
use native.Mathlib.Omega.{arith}
use lib.Dec.{T, leb, ltb, eqb, leb→le, eqb→eq}
use lib.IntN.{ℤ, pos, negsuc}
use borrow.Author.Tests.{lt-ltb, le-ltb, leb-true, eq-eqb, ne_eqb}
use Rattle.flat.specs.Kind
use Rattle.flat.proofs.Rules.{and_left, and_right}
use Rattle.dtype.specs.Match.{among}
use Rattle.dtype.specs.Predicate.{is_signed_integer}
use Rattle.supertype_numbers.specs.Integer.{width_of, bits_of, holds, first_that_holds}
use Rattle.supertype_numbers.specs.DynInt.{value_of, materialize_dyn_int, materialize_dyn_int_pos}
use Rattle.supertype_numbers.specs.DynInt.{materialize_smallest_dyn_int}
use Rattle.supertype_numbers.proofs.Integers.{is_in_range}

-- f gives the first of the types that holds v, else the other
pub record First (f : ℤ → ℕ) (types : List ℕ) (other : ℕ) : Type 0 where
  pub is : (v : ℤ) → f v ≡ first_that_holds types other v

pub dyn_int_lem : First materialize_dyn_int (Kind.Int32 ∷ Kind.Int64 ∷ Kind.UInt64 ∷ []) Kind.Int128
unfolding materialize_dyn_int
dyn_int_lem = record { is = λ v. refl }

pub dyn_int_pos : First materialize_dyn_int_pos (Kind.UInt8 ∷ Kind.UInt16 ∷ Kind.UInt32 ∷ Kind.UInt64 ∷ []) Kind.Null
unfolding materialize_dyn_int_pos
dyn_int_pos = record { is = λ v. refl }

pub smallest_dyn_int : First materialize_smallest_dyn_int (Kind.Int8 ∷ Kind.Int16 ∷ Kind.Int32 ∷ Kind.Int64 ∷ Kind.UInt64 ∷ []) Kind.Null
unfolding materialize_smallest_dyn_int
smallest_dyn_int = record { is = λ v. refl }

-- one past the largest argument of a type's numbers
abbrev limit : ℕ → ℕ
limit t = 2 ^ bits_of t

-- Of the arguments from lo on and below hi, where v is not below 0 if p is true: the first type that holds any v holds all
-- of them, and is x. antt computes it.
unfoldable pub first : Bool → ℕ → ℕ → List ℕ → ℕ → ℕ → Bool
unfolding is_signed_integer among
first p lo hi [] other x = eqb x other
first p lo hi (t ∷ ts) other x =
    cond ((is_signed_integer t || p) && leb hi (limit t)) (eqb x t)
    ((not (is_signed_integer t || p) || leb (limit t) lo) && first p lo hi ts other x)

module _ (k a : ℕ) (p : Bool) (e : eqb k Kind.UnknownIntPos ≡ p) where
  dyn_holds : (t : ℕ) → holds t (value_of k a) ≡ ((is_signed_integer t || p) && ltb a (limit t))
  unfolding value_of
  dyn_holds t = rw e (go p)
    where
      go : (b : Bool) → holds t (cond b (pos a) (negsuc a)) ≡ ((is_signed_integer t || b) && ltb a (limit t))
      go true = is_in_range (is_signed_integer t) (width_of t) (pos a)
      go false = is_in_range (is_signed_integer t) (width_of t) (negsuc a)

  first_is : (lo hi : ℕ) → lo ≤ a → a < hi → (ts : List ℕ) (other x : ℕ) → T (first p lo hi ts other x) → x ≡ first_that_holds ts other (value_of k a)
  unfolding first
  first_is lo hi l h [] other x i = eqb→eq x other i
  first_is lo hi l h (t ∷ ts) other x i = rw (dyn_holds t) (go (is_signed_integer t || p) (leb hi (limit t)) refl i (first_is lo hi l h ts other x))
    where
      go : (s b : Bool) → leb hi (limit t) ≡ b → T (cond (s && b) (eqb x t) ((not s || leb (limit t) lo) && first p lo hi ts other x)) →
          (T (first p lo hi ts other x) → x ≡ first_that_holds ts other (value_of k a)) → x ≡ cond (s && ltb a (limit t)) t (first_that_holds ts other (value_of k a))
      go true true e i rest = rw (lt-ltb a (limit t) (omega (arith, leb-true hi (limit t) e))) (eqb→eq x t i)
      go true false e i rest =
          rw (le-ltb a (limit t) (omega (arith, leb→le (limit t) lo (and_left (leb (limit t) lo) _ i)))) (rest (and_right (leb (limit t) lo) _ i))
      go false b e i rest = rest i

module _ {f : ℤ → ℕ} {ts : List ℕ} {other : ℕ} (d : First f ts other) (lo hi x k a : ℕ) (l : lo ≤ a) (h : a < hi) where
  of_sign : (p : Bool) → eqb k Kind.UnknownIntPos ≡ p → T (first p lo hi ts other x) → x ≡ f (value_of k a)
  of_sign p e t = first_is k a p e lo hi l h ts other x t ∙ sym (d.is (value_of k a))

  pub if_pos : k ≡ Kind.UnknownIntPos → T (first true lo hi ts other x) → x ≡ f (value_of k a)
  if_pos e = of_sign true (eq-eqb k Kind.UnknownIntPos e)

  pub if_neg : (k ≡ Kind.UnknownIntPos → ⊥) → T (first false lo hi ts other x) → x ≡ f (value_of k a)
  if_neg e = of_sign false (ne_eqb k Kind.UnknownIntPos e)

  -- v has either sign
  pub if_any : T (first true lo hi ts other x) → T (first false lo hi ts other x) → x ≡ f (value_of k a)
  if_any s t = go (eqb k Kind.UnknownIntPos) refl
    where
      go : (p : Bool) → eqb k Kind.UnknownIntPos ≡ p → x ≡ f (value_of k a)
      go true e = of_sign true e s
      go false e = of_sign false e t
