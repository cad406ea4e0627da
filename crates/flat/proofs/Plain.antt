-- One plain leaf: what its test tells, and that it is a type. Assumes nothing.
use mathlib.Core.Path.{◌≡◌, refl, sym, ap, ap₂, ◌∙◌}
use mathlib.Core.Bool.{Bool, true, false, ◌&&◌, ◌||◌}
use mathlib.Core.List.{List, [], ◌∷◌}
use Prim.Native.Nat.{ℕ, ◌≤◌, ◌<◌}
use native.Mathlib.Omega.{arith}
use borrow.Author.Tests.{eq-eqb, ne_eqb, lt-leb, leb-true, eqb-true, ltb-true, ltb-false}
use lib.Dec.{T, leb, ltb, eqb}
use lib.ListN.{length, get_or}
use Rattle.flat.specs.Kind
use Rattle.flat.specs.Argument.{argument_rule, argument_fits, leaf_fits, plain_leaf}
use Rattle.flat.specs.Tree.{leaf, size, depth, kinds_of, args_of}
use Rattle.flat.specs.Reading.{type, reading, checked_of, one_plain, Ruled}
use Rattle.flat.proofs.Truths.{both_true}
use Rattle.flat.proofs.Meaning.{Passed, check_passed, passes as type-passes}
use Rattle.flat.proofs.Rules.{run, passes}

-- ---- the test of one node
-- every leaf but Decimal may have the argument 0
zero_fits : T (run (λ k. eqb k Kind.Decimal || leaf_fits k 0) 0 Kind.List)
unfolding argument_fits argument_rule
zero_fits = tt

pub argument_told : (k a : ℕ) → (a ≡ 0 → ⊥) → false ≡ plain_leaf k a
unfolding plain_leaf
argument_told k a h = rw (ne_eqb a 0 h)

pub decimal_told : (k a : ℕ) → a ≡ 0 → k ≡ Kind.Decimal → false ≡ plain_leaf k a
unfolding plain_leaf argument_fits argument_rule
decimal_told k a z e = rw (z, e)

pub kind_told : (k a : ℕ) → a ≡ 0 → (k ≡ Kind.Decimal → ⊥) → ltb k Kind.List ≡ plain_leaf k a
unfolding plain_leaf
kind_told k a z d = rw z (go (ltb k Kind.List) refl)
  where
    go : (b : Bool) → ltb k Kind.List ≡ b → b ≡ leaf_fits k 0
    go true e = sym (rw (ne_eqb k Kind.Decimal d) at (passes (λ k. eqb k Kind.Decimal || leaf_fits k 0) 0 Kind.List zero_fits k (omega arith) (ltb-true k Kind.List e)))
    go false e = rw (lt-leb k Kind.UnknownIntNeg (ltb-false k Kind.List e))

-- ---- two arrays
module _ (ks xs : List ℕ) where
  pub kinds_told : (length ks ≡ 1 → ⊥) → false ≡ one_plain ks xs
  unfolding one_plain
  kinds_told h = rw (ne_eqb (length ks) 1 h)

  module _ (h : length ks ≡ 1) where
    pub args_told : (length xs ≡ 1 → ⊥) → false ≡ one_plain ks xs
    unfolding one_plain
    args_told g = rw (eq-eqb (length ks) 1 h, ne_eqb (length xs) 1 g)

    pub leaf_told : length xs ≡ 1 → plain_leaf (get_or ks 0 0) (get_or xs 0 0) ≡ one_plain ks xs
    unfolding one_plain
    leaf_told g = rw (eq-eqb (length ks) 1 h, eq-eqb (length xs) 1 g)

-- a list of one
pub alone : (l : List ℕ) → length l ≡ 1 → get_or l 0 0 ∷ [] ≡ l
alone [] h = absurd (omega arith)
alone (k ∷ []) h = refl
alone (k ∷ j ∷ l) h = absurd (omega arith)

-- what a plain leaf is
pub plain_fits : (k a : ℕ) → plain_leaf k a ≡ true → (a ≡ 0) × (k < Kind.List) × (argument_fits k a ≡ true)
unfolding plain_leaf
plain_fits k a e =
    let both = both_true (eqb a 0) (leaf_fits k a) e in
    let fits = both_true (leb k Kind.UnknownIntNeg) (argument_fits k a) both.1 in
    (eqb-true a 0 both.0, omega (arith, leb-true k Kind.UnknownIntNeg fits.0), fits.1)

-- a leaf that follows its rule is a type
leaf_type :
    (nodes deep k a : ℕ) → 1 ≤ nodes → k < Kind.List → argument_fits k a ≡ true
    → reading nodes deep (k ∷ []) (a ∷ []) ≡ type (leaf k a)
unfolding kinds_of args_of Ruled size depth
leaf_type nodes deep k a h l f =
    type-passes nodes deep (leaf k a) (record { ruled = (omega arith, f); within = h; shallow = omega arith })

-- What the test of two arrays tells: they are the one leaf, with the argument 0, and that is a type.
pub record PlainType (nodes deep : ℕ) (ks xs : List ℕ) : Type 0 where
  pub kinds : ks ≡ get_or ks 0 0 ∷ []
  pub args : xs ≡ 0 ∷ []
  pub low : get_or ks 0 0 < Kind.List
  pub fits : argument_fits (get_or ks 0 0) 0 ≡ true
  pub reads : reading nodes deep ks xs ≡ type (leaf (get_or ks 0 0) 0)
  pub passed : Passed nodes deep ks xs

pub plain_type : (nodes deep : ℕ) (ks xs : List ℕ) → 1 ≤ nodes → one_plain ks xs ≡ true → PlainType nodes deep ks xs
unfolding one_plain
plain_type nodes deep ks xs h e =
    let both = both_true (eqb (length ks) 1 && eqb (length xs) 1) (plain_leaf (get_or ks 0 0) (get_or xs 0 0)) e in
    let lengths = both_true (eqb (length ks) 1) (eqb (length xs) 1) both.0 in
    let fits = plain_fits (get_or ks 0 0) (get_or xs 0 0) both.1 in
    let one = sym (alone ks (eqb-true (length ks) 1 lengths.0)) in
    let zero = sym (alone xs (eqb-true (length xs) 1 lengths.1)) ∙ ap (λ (a : ℕ). a ∷ []) fits.0 in
    let rule = rw fits.0 at fits.2 in
    let r = ap₂ (reading nodes deep) one zero ∙ leaf_type nodes deep (get_or ks 0 0) 0 h fits.1 rule in
    record { kinds = one; args = zero; low = fits.1; fits = rule; reads = r; passed = check_passed (ap checked_of (sym r)) }
