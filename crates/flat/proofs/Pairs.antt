-- The laws of a call on two types: the left one's refusal comes first, then the right one's, then the rule. Assumes
-- nothing.
use mathlib.Core.Path.{◌≡◌, refl}
use Prim.Native.Nat.{ℕ}
use Rattle.flat.specs.Tree.{DataType, head_kind, head_arg}
use Rattle.flat.specs.Reading.{Reading, refused, type, root_of}
use Rattle.flat.specs.Both.{both_of, root_reading}
use Rattle.flat.specs.declared.error.Error.{Error}

module _ {A : Type 0} (refusal : Error → A) (rule : DataType → DataType → A) (l r : Reading) where
  pub left_refused : {e : Error} → l ≡ refused e → both_of refusal rule l r ≡ refusal e
  unfolding both_of
  left_refused h = rw h

  pub right_refused : {t : DataType} {e : Error} → l ≡ type t → r ≡ refused e → both_of refusal rule l r ≡ refusal e
  unfolding both_of
  right_refused h g = rw (h, g)

  pub both_types : {t u : DataType} → l ≡ type t → r ≡ type u → both_of refusal rule l r ≡ rule t u
  unfolding both_of
  both_types h g = rw (h, g)

-- A rule that rests on the two roots alone says of two types what it says of their roots.
pub by_roots : {A : Type 0} (refusal : Error → A) (rule : ℕ → ℕ → ℕ → ℕ → A) (l r : Reading)
    → both_of refusal (λ t u. rule (head_kind t) (head_arg t) (head_kind u) (head_arg u)) l r
    ≡ both_of refusal (λ t u. rule (head_kind t) (head_arg t) (head_kind u) (head_arg u)) (root_reading (root_of l))
    (root_reading (root_of r))
unfolding both_of head_kind head_arg
by_roots refusal rule (refused e) r = refl
by_roots refusal rule (type t) (refused e) = refl
by_roots refusal rule (type t) (type u) = refl
