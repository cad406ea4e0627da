-- The upcast against the ranges and the formats: one computed test over all pairs of each. Assumes nothing.
use mathlib.Core.Path.{◌≡◌, refl, ap, subst}
use mathlib.Core.Bool.{Bool, true, false, not, cond, ◌&&◌, ◌||◌}
use mathlib.Core.List.{[], ◌∷◌}
use Rattle.std.specs.Prelude.{Option, None, Some}
use Prim.Native.Nat.{ℕ, ◌+◌, ◌-◌, ◌≤◌, ◌<◌}
use native.Mathlib.Omega.{arith}
use lib.Dec.{T, leb, eqb, leb→le, T_not}
use borrow.Author.Tests.{eqb-true}
use Rattle.flat.specs.Kind
use Rattle.flat.proofs.Rules.{and_left, and_right, and_both, implies, area, in_area}
use Rattle.flat.proofs.Truths.{impossible}
use Rattle.supertype_numbers.specs.Range.{Listed, is_listed, Covers, Least, Room}
use Rattle.supertype_numbers.specs.Format.{Format, format_of, FormatIncludes}
use Rattle.supertype_numbers.proofs.Tests.{to_listed, each, at, pairs, at_pair}
use Rattle.supertype_numbers.proofs.Ranges.{inside, includes, least_one}
use Rattle.supertype_numbers.proofs.Formats.{wider_format}
use Rattle.supertype_lossless.specs.Lossless.{upcast_of}
use Rattle.supertype_lossless.specs.Laws.{LosslessLaws}
use Rattle.supertype_lossless.proofs.Upcasts.{right as right-kinds, apart, of_apart}

-- ---- integers

abbrev over : ℕ → ℕ → ℕ → Bool
over l r u = inside u l && inside u r

abbrev least : ℕ → ℕ → Option ℕ → Bool
least l r (Some t) = is_listed t && (over l r t && each (λ u. not (over l r u) || inside u t))
least l r None = each (λ u. not (over l r u))

abbrev right : ℕ → ℕ → Bool
right l r = least l r (upcast_of l r)

tested : T (pairs (apart right))
unfolding is_listed right-kinds
tested = tt

module _ (l r : ℕ) (p : Listed l) (q : Listed r) where
  covered : (u : ℕ) → Listed u → Covers u (l ∷ r ∷ []) → T (over l r u)
  covered u h c = and_both (inside u l) (inside u r) ((includes u l h p).0 c.0) ((includes u r h q).0 c.1.0)

  is_least : (t : ℕ) → T (least l r (Some t)) → Least t (l ∷ r ∷ [])
  is_least t e = record {
    is_listed_kind = h;
    covers = ((includes t l h p).1 (and_left (inside t l) _ o), ((includes t r h q).1 (and_right (inside t l) _ o), tt));
    innermost =
        λ u i c. (includes u t i h).1
        (implies (over l r u) _ (at (λ u. not (over l r u) || inside u t) m u i) (covered u i c));
  }
    where
      h : Listed t
      h = to_listed t (and_left (is_listed t) _ e)

      rest : T (over l r t && each (λ u. not (over l r u) || inside u t))
      rest = and_right (is_listed t) _ e

      o : T (over l r t)
      o = and_left (over l r t) _ rest

      m : T (each (λ u. not (over l r u) || inside u t))
      m = and_right (over l r t) _ rest

  no_room : T (least l r None) → Room (l ∷ r ∷ []) → ⊥
  no_room e s = T_not (over l r s.0) (at (λ u. not (over l r u)) e s.0 s.1) (covered s.0 s.1 s.2)

  module _ (d : l ≡ r → ⊥) where
    told : (a : Option ℕ) → upcast_of l r ≡ a → T (least l r a)
    told a e = subst (λ (b : Option ℕ). T (least l r b)) e (of_apart right l r d (at_pair (apart right) tested l r p q))

    to : (t : ℕ) → upcast_of l r ≡ Some t → Least t (l ∷ r ∷ [])
    to t e = is_least t (told (Some t) e)

    from : (t : ℕ) → Least t (l ∷ r ∷ []) → upcast_of l r ≡ Some t
    from t m = go (upcast_of l r) refl
      where
        go : (a : Option ℕ) → upcast_of l r ≡ a → a ≡ Some t
        go (Some u) e = ap Some (least_one (to u e) m)
        go None e = absurd (no_room (told None e) (t, m.is_listed_kind, m.covers))

    nowhere : (Room (l ∷ r ∷ []) → ⊥) → upcast_of l r ≡ None
    nowhere n = go (upcast_of l r) refl
      where
        go : (a : Option ℕ) → upcast_of l r ≡ a → a ≡ None
        go (Some u) e = let m = to u e in absurd (n (u, m.is_listed_kind, m.covers))
        go None e = refl

-- ---- floats

-- the format h has the bits of f, and reaches as far down and up
abbrev wider : Format → Format → Bool
wider h f =
    leb f.precision h.precision
    && (leb (f.emax + f.precision) (h.emax + h.precision)
    && leb (f.emax + 1 - f.precision) (h.emax + 1 - h.precision))

is_wider : (h f : Format) → T (wider h f) → FormatIncludes h f
is_wider h f t =
    let s = and_right (leb f.precision h.precision) _ t in
    let up = leb (f.emax + f.precision) (h.emax + h.precision) in
    wider_format h f (leb→le _ _ (and_left (leb f.precision h.precision) _ t)) (leb→le _ _ (and_left up _ s))
    (leb→le _ _ (and_right up _ s))

-- the test of a format, where there is one
abbrev of_format : Option Format → (Format → Bool) → Bool
of_format None p = false
of_format (Some h) p = p h

abbrev of_upcast : Option ℕ → (Format → Bool) → Bool
of_upcast (Some t) p = of_format (format_of t) p
of_upcast None p = false

abbrev kept : ℕ → ℕ → Bool
kept l r =
    of_format (format_of l) (λ f. of_format (format_of r) (λ g. of_upcast (upcast_of l r) (λ h. wider h f && wider h g)))

tested_floats : T (area (apart kept) Kind.Float16 3 Kind.Float16 3)
unfolding format_of right-kinds
tested_floats = tt

is_float_lem : (k : ℕ) (f : Format) → format_of k ≡ Some f → (Kind.Float16 ≤ k) × (k < Kind.Float16 + 3)
unfolding format_of
is_float_lem k f = go (eqb k Kind.Float16) (eqb k Kind.Float32) (eqb k Kind.Float64) _ _ _ refl refl refl
  where
    go : (a b c : Bool) (x y z : Format) → eqb k Kind.Float16 ≡ a → eqb k Kind.Float32 ≡ b → eqb k Kind.Float64 ≡ c
        → cond a (Some x) (cond b (Some y) (cond c (Some z) None)) ≡ Some f
        → (Kind.Float16 ≤ k) × (k < Kind.Float16 + 3)
    go true b c x y z p q r e = omega (arith, eqb-true)
    go false true c x y z p q r e = omega (arith, eqb-true)
    go false false true x y z p q r e = omega (arith, eqb-true)
    go false false false x y z p q r e = impossible cc

module _ (l r : ℕ) (f g : Format) (p : format_of l ≡ Some f) (q : format_of r ≡ Some g) (d : l ≡ r → ⊥) where
  -- the upcast has a format that includes both
  abbrev Wide : Type 0
  Wide =
      (t : ℕ) × (h : Format) × (upcast_of l r ≡ Some t) × (format_of t ≡ Some h) × FormatIncludes h f × FormatIncludes h g

  has_both : Wide
  has_both =
      let t = in_area (apart kept) Kind.Float16 3 Kind.Float16 3 tested_floats l r (is_float_lem l f p, is_float_lem r g q) in
      go (upcast_of l r) refl (rw (p, q) at (of_apart kept l r d t))
    where
      at_format : (t : ℕ) → upcast_of l r ≡ Some t → (o : Option Format) → format_of t ≡ o
          → T (of_format o (λ h. wider h f && wider h g)) → Wide
      at_format t e None s i = absurd i
      at_format t e (Some h) s i =
          (t, h, e, s, is_wider h f (and_left (wider h f) _ i), is_wider h g (and_right (wider h f) _ i))

      go : (a : Option ℕ) → upcast_of l r ≡ a → T (of_upcast a (λ h. wider h f && wider h g)) → Wide
      go (Some t) e i = at_format t e (format_of t) refl i
      go None e i = absurd i

pub lossless_laws : LosslessLaws
lossless_laws = record {
  least = λ l r p q d t. (to l r p q d t, from l r p q d t);
  none = λ l r p q d. ((λ e. no_room l r p q (told l r p q d None e)), nowhere l r p q d);
  floats = has_both;
}
