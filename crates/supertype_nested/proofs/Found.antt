-- What holds of what was found, if something was. Assumes nothing.
use Rattle.std.specs.Option.{option_or}
use mathlib.Core.Path.{◌≡◌, refl, subst}
use mathlib.Core.Bool.{Bool, true, false, cond}
use Rattle.std.specs.Prelude.{Option, None, Some}
use Rattle.std.specs.Prelude.{option_map, option_and_then}
use Rattle.flat.specs.Tree.{DataType}
use Rattle.flat.proofs.Truths.{impossible}

abbrev pub If : {A : Type 0} → (A → Type 0) → Option A → Type 0
If P None = Unit {0}
If P (Some a) = P a

module _ {A : Type 0} (P : A → Type 0) where
  pub if_told : (q : Option A) (a : A) → q ≡ Some a → If P q → P a
  if_told q a e h = subst (If P) e h

  pub if_cond : (b : Bool) (p q : Option A) → If P p → If P q → If P (cond b p q)
  if_cond true p q h g = h
  if_cond false p q h g = g

  pub if_weaken : (Q : A → Type 0) → ((a : A) → P a → Q a) → (q : Option A) → If P q → If Q q
  if_weaken Q f None h = tt
  if_weaken Q f (Some a) h = f a h

module _ {A B : Type 0} (P : A → Type 0) (Q : B → Type 0) where
  pub if_map : (f : A → B) → ((a : A) → P a → Q (f a)) → (q : Option A) → If P q → If Q (option_map f q)
  if_map f g None h = tt
  if_map f g (Some a) h = g a h

  pub if_bind : (f : A → Option B) → ((a : A) → P a → If Q (f a)) → (q : Option A) → If P q → If Q (option_and_then f q)
  if_bind f g None h = tt
  if_bind f g (Some a) h = g a h

pub if_or : (P : DataType → Type 0) (p q : Option DataType) → If P p → If P q → If P (option_or p q)
if_or P None q h g = g
if_or P (Some t) q h g = h

-- the same of two ways on, where they agree on what was found
pub bind_same : {A B : Type 0} (f g : A → Option B) (q : Option A) → If (λ a. f a ≡ g a) q → option_and_then f q ≡ option_and_then g q
bind_same f g None h = refl
bind_same f g (Some a) h = h

pub cond_same : {A : Type 0} (b : Bool) {p p' q q' : A} → p ≡ p' → q ≡ q' → cond b p q ≡ cond b p' q'
cond_same true h g = h
cond_same false h g = g

-- ---- nothing was found

pub no_some : {A B : Type 0} {a : A} → Some a ≡ None → B
no_some e = impossible cc

pub map_none : {A B : Type 0} (f : A → B) (q : Option A) → option_map f q ≡ None → q ≡ None
map_none f None e = refl
map_none f (Some a) e = no_some e
