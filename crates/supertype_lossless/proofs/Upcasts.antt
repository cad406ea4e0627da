-- The upcast of two kinds: one computed test for all pairs of two classes, and None wherever a side is in no class.
-- Assumes nothing.
use mathlib.Core.Path.{◌≡◌, refl, sym, ap}
use mathlib.Core.Bool.{Bool, true, false, cond, not, ◌&&◌, ◌||◌, or-true}
use Rattle.std.specs.Prelude.{Option, None, Some}
use Prim.Native.Nat.{ℕ}
use lib.Dec.{T, eqb, eqb→eq}
use borrow.Author.Tests.{eq-eqb, ne_eqb}
use Rattle.flat.proofs.Rules.{or_right, In, area, in_area}
use Rattle.flat.proofs.Truths.{to_T}
use Rattle.dtype.specs.Match.{among}
use Rattle.dtype.specs.Predicate.{is_float, is_unknown_int, is_signed_integer, is_unsigned_integer, is_integer}
use Rattle.dtype.specs.Predicate.{is_nested, is_unknown}
use Rattle.supertype_lossless.specs.Lossless.{upcast_by, floats, signed, unsigned, mixed, upcast_where, upcast_of}

-- two answers are the same
abbrev alike : Option ℕ → Option ℕ → Bool
alike (Some j) (Some k) = eqb j k
alike (Some j) None = false
alike None (Some k) = false
alike None None = true

alike_eq : (a b : Option ℕ) → T (alike a b) → a ≡ b
alike_eq (Some j) (Some k) t = ap Some (eqb→eq j k t)
alike_eq (Some j) None t = absurd t
alike_eq None (Some k) t = absurd t
alike_eq None None t = refl

-- f is the upcast of two kinds; unfolding `right` unfolds all that the upcast is computed by
unfoldable pub right : (ℕ → ℕ → Option ℕ) → ℕ → ℕ → Bool
unfolding upcast_of upcast_where upcast_by floats signed unsigned mixed among is_float is_unknown_int is_signed_integer
    is_unsigned_integer is_integer is_nested is_unknown
right f l r = alike (f l r) (upcast_of l r)

-- f is the upcast all over an area
pub rule : (f : ℕ → ℕ → Option ℕ) (i m j n : ℕ) → T (area (right f) i m j n) → (l r : ℕ) → In i m j n l r
    → f l r ≡ upcast_of l r
unfolding right
rule f i m j n t l r h = alike_eq (f l r) (upcast_of l r) (in_area (right f) i m j n t l r h)

-- a test of two different kinds
abbrev pub apart : (ℕ → ℕ → Bool) → ℕ → ℕ → Bool
apart p l r = eqb l r || p l r

pub of_apart : (p : ℕ → ℕ → Bool) (l r : ℕ) → (l ≡ r → ⊥) → T (apart p l r) → T (p l r)
of_apart p l r d t = or_right (p l r) (ne_eqb l r d) t

pub rule_apart : (f : ℕ → ℕ → Option ℕ) (i m j n : ℕ) → T (area (apart (right f)) i m j n) → (l r : ℕ) → In i m j n l r
    → (l ≡ r → ⊥) → f l r ≡ upcast_of l r
unfolding right
rule_apart f i m j n t l r h d =
    alike_eq (f l r) (upcast_of l r) (of_apart (right f) l r d (in_area (apart (right f)) i m j n t l r h))

-- ---- where there is none

pub same_kind : (l r : ℕ) → l ≡ r → None ≡ upcast_of l r
unfolding upcast_of upcast_where
same_kind l r e = rw (eq-eqb l r e, or-true (is_unknown l || is_unknown r || is_nested l || is_nested r))

-- a kind in no class of numbers: an Unknown, or neither a float nor an integer
abbrev pub other : ℕ → Bool
other k = is_unknown k || not (is_float k || is_integer k)

pub other_none : (same : Bool) (l r : ℕ) → true ≡ other l → None ≡ upcast_where same l r
unfolding upcast_where is_integer
other_none same l r e =
    go (is_unknown l) (is_float l) (is_signed_integer l) (is_unsigned_integer l) (is_unknown_int l) (to_T (sym e))
  where
    none_either : (b : Bool) → ◌≡◌ {A = Option ℕ} None (cond b None None)
    none_either true = refl
    none_either false = refl

    go : (u f s w i : Bool) → T (u || not (f || (s || w || i)))
        → None ≡ cond (u || is_unknown r || is_nested l || is_nested r || same) None
        (cond (f && is_float r) (upcast_by floats l r)
        (cond (s && is_signed_integer r) (upcast_by signed l r)
        (cond (w && is_unsigned_integer r) (upcast_by unsigned l r)
        (cond ((s || w || i) && is_integer r) (upcast_by mixed l r)
        None))))
    go true f s w i t = refl
    go false false false false false t = none_either (is_unknown r || is_nested l || is_nested r || same)
    go false false false false true t = absurd t
    go false false false true i t = absurd t
    go false false true w i t = absurd t
    go false true s w i t = absurd t

pub other_kind : (l r : ℕ) → true ≡ other l → None ≡ upcast_of l r
unfolding upcast_of
other_kind l r = other_none (eqb l r) l r
