-- When two nodes are equal, by the tests of their kinds and arguments. Assumes nothing.
use mathlib.Core.Path.{◌≡◌, ◌∙◌}
use mathlib.Core.Bool.{true, false, ◌&&◌, and-false, and-eq-true_iff, or-true, or-false}
use Prim.Native.Nat.{ℕ}
use lib.Dec.{eqb}
use borrow.Author.Tests.{eq-eqb, ne_eqb, eqb-true}
use Rattle.flat.specs.Kind
use Rattle.dtype.specs.Match.{among}
use Rattle.dtype.specs.Predicate.{is_unknown_int}
use Rattle.dtype.specs.Equality.{equal_node}

-- a kind that is none of `Unknown(Int(_))`
known : (k : ℕ) → (k ≡ Kind.UnknownIntPos → ⊥) → (k ≡ Kind.UnknownIntNeg → ⊥) → is_unknown_int k ≡ false
unfolding is_unknown_int among
known k p q = rw (ne_eqb k Kind.UnknownIntPos p, ne_eqb k Kind.UnknownIntNeg q)

module _ (k a l b : ℕ) where
  pub nodes_same : k ≡ l → a ≡ b → equal_node k a l b ≡ true
  unfolding equal_node
  nodes_same e f = rw (eq-eqb k l e, eq-eqb a b f, or-true)

  module _ (e : k ≡ l → ⊥) where
    kinds_differ : equal_node k a l b ≡ (is_unknown_int k && is_unknown_int l)
    unfolding equal_node
    kinds_differ = rw (ne_eqb k l e, or-false)

    pub left_known : (k ≡ Kind.UnknownIntPos → ⊥) → (k ≡ Kind.UnknownIntNeg → ⊥) → equal_node k a l b ≡ false
    left_known p q = kinds_differ ∙ rw (known k p q)

    pub right_known : (l ≡ Kind.UnknownIntPos → ⊥) → (l ≡ Kind.UnknownIntNeg → ⊥) → equal_node k a l b ≡ false
    right_known p q = kinds_differ ∙ rw (known l p q, and-false)

  -- the test of a node that is no unknown int
  pub same_node : (k ≡ Kind.UnknownIntPos → ⊥) → (k ≡ Kind.UnknownIntNeg → ⊥) → equal_node k a l b ≡ true → (k ≡ l) × (a ≡ b)
  unfolding equal_node
  same_node p q e =
      let f : (eqb k l && eqb a b) ≡ true = rw (known k p q) at e in
      let s = (and-eq-true_iff (eqb k l) (eqb a b)).0 f in
      (eqb-true k l s.0, eqb-true a b s.1)
