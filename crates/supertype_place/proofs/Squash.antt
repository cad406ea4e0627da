-- Two types that are equal, as is only known to hold, are equal. Assumes nothing.
use mathlib.Core.Path.{◌≡◌, refl, sym, ap, ap₂, ◌∙◌}
use mathlib.Core.Bool.{Bool, true, false, ◌&&◌}
use lib.Dec.{eqb}
use borrow.Author.Tests.{eq-eqb, eqb-true}
use Rattle.std.proofs.Math.Bool.{Bool-set}
use Rattle.std.proofs.Math.Logic.{∥∥₁_elim}
use Rattle.flat.specs.Tree.{DataType, leaf, list, array, struct, Fields, empty, field}
use Rattle.flat.proofs.Truths.{never, both_true}

unfoldable mutual
  -- two types are the same, as a test
  same_type : DataType → DataType → Bool
  same_type (leaf k a) (leaf l b) = eqb k l && eqb a b
  same_type (leaf k a) (list u) = false
  same_type (leaf k a) (array v u) = false
  same_type (leaf k a) (struct gs) = false
  same_type (list t) (leaf l b) = false
  same_type (list t) (list u) = same_type t u
  same_type (list t) (array v u) = false
  same_type (list t) (struct gs) = false
  same_type (array w t) (leaf l b) = false
  same_type (array w t) (list u) = false
  same_type (array w t) (array v u) = eqb w v && same_type t u
  same_type (array w t) (struct gs) = false
  same_type (struct fs) (leaf l b) = false
  same_type (struct fs) (list u) = false
  same_type (struct fs) (array v u) = false
  same_type (struct fs) (struct gs) = same_fields fs gs

  same_fields : Fields → Fields → Bool
  same_fields empty empty = true
  same_fields empty (field other u gs) = false
  same_fields (field name t fs) empty = false
  same_fields (field name t fs) (field other u gs) = eqb name other && (same_type t u && same_fields fs gs)

both_yes : {a b : Bool} → a ≡ true → b ≡ true → (a && b) ≡ true
both_yes e h = ap₂ (λ (a b : Bool). a && b) e h

mutual
  unfolding same_type

  same_refl : (t : DataType) → same_type t t ≡ true
  same_refl (leaf k a) = both_yes (eq-eqb k k refl) (eq-eqb a a refl)
  same_refl (list t) = same_refl t
  same_refl (array w t) = both_yes (eq-eqb w w refl) (same_refl t)
  same_refl (struct fs) = same_refls fs

  same_refls : (fs : Fields) → same_fields fs fs ≡ true
  same_refls empty = refl
  same_refls (field name t fs) = both_yes (eq-eqb name name refl) (both_yes (same_refl t) (same_refls fs))

mutual
  unfolding same_type

  same_is : (t u : DataType) → same_type t u ≡ true → t ≡ u
  same_is (leaf k a) (leaf l b) e =
      let h = both_true (eqb k l) (eqb a b) e in ap₂ leaf (eqb-true k l h.0) (eqb-true a b h.1)
  same_is (leaf k a) (list u) e = never e
  same_is (leaf k a) (array v u) e = never e
  same_is (leaf k a) (struct gs) e = never e
  same_is (list t) (leaf l b) e = never e
  same_is (list t) (list u) e = ap list (same_is t u e)
  same_is (list t) (array v u) e = never e
  same_is (list t) (struct gs) e = never e
  same_is (array w t) (leaf l b) e = never e
  same_is (array w t) (list u) e = never e
  same_is (array w t) (array v u) e =
      let h = both_true (eqb w v) (same_type t u) e in ap₂ array (eqb-true w v h.0) (same_is t u h.1)
  same_is (array w t) (struct gs) e = never e
  same_is (struct fs) (leaf l b) e = never e
  same_is (struct fs) (list u) e = never e
  same_is (struct fs) (array v u) e = never e
  same_is (struct fs) (struct gs) e = ap struct (sames_are fs gs e)

  sames_are : (fs gs : Fields) → same_fields fs gs ≡ true → fs ≡ gs
  sames_are empty empty e = refl
  sames_are empty (field other u gs) e = never e
  sames_are (field name t fs) empty e = never e
  sames_are (field name t fs) (field other u gs) e =
      let h = both_true (eqb name other) (same_type t u && same_fields fs gs) e in
      let g = both_true (same_type t u) (same_fields fs gs) h.1 in
      (λ i. field (eqb-true name other h.0 i) (same_is t u g.0 i) (sames_are fs gs g.1 i))

pub squash_fields : {A : Type 0} (fs gs : Fields) → ∥ A ∥₁ → (A → fs ≡ gs) → fs ≡ gs
squash_fields fs gs a f =
    sames_are fs gs (∥∥₁_elim a (Bool-set _ _) (λ x. ap (same_fields fs) (sym (f x)) ∙ same_refls fs))
