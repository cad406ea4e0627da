-- A position in the two arrays is a subtree: what the reader says there, from the node that stands there and what it
-- says of the positions after it. These laws have no bound on the reading; every walk's proof goes by them. Assumes
-- nothing.
use mathlib.Core.Path.{◌≡◌, refl, ap, ap₂, ◌∙◌}
use mathlib.Core.Bool.{Bool, true, false}
use mathlib.Core.List.{List, [], ◌∷◌}
use Rattle.std.specs.Prelude.{Option, None, Some}
use Rattle.std.specs.Prelude.{option_map, option_and_then}
use Prim.Native.Nat.{ℕ, zero, suc, ◌+◌, ◌-◌, ◌≤◌, ◌<◌}
use native.Mathlib.Omega.{arith}
use native.Mathlib.Numerals.{sub-one, add-one}
use lib.Dec.{eqb}
use lib.ListN.{length, get_or, take, drop, length-drop}
use lib.Seq.{drop-cons, take_all}
use borrow.Author.Tests.{le-leb, ne_eqb}
use Rattle.flat.specs.Kind
use Rattle.flat.specs.Tree.{DataType, list, array, struct, Fields, empty, field, size}
use Rattle.flat.specs.Reader.{Children, no_child, under_list, under_array, fields, no_type, children}
use Rattle.flat.specs.Reader.{Reads, under_node, step_node, under_field, step_fields, node_in, fields_in, node_at}
use Rattle.flat.specs.Reader.{fields_at}

-- Readers that agree on what stands under a node agree on the node.
same_under :
    (p p' : Reads DataType) (f f' : ℕ → Reads Fields) (s : Children) (k a : ℕ) (ks xs : List ℕ) → p ks xs ≡ p' ks xs
    → f a ks xs ≡ f' a ks xs → under_node p f s k a ks xs ≡ under_node p' f' s k a ks xs
same_under p p' f f' no_child k a ks xs e g = refl
same_under p p' f f' under_list k a ks xs e g = ap (option_map list) e
same_under p p' f f' under_array k a ks xs e g = ap (option_map (array a)) e
same_under p p' f f' fields k a ks xs e g = ap (option_map struct) g
same_under p p' f f' no_type k a ks xs e g = refl

-- Readers that agree on what stands under a field, and on the fields after it, agree on the fields.
same_under_field :
    (p p' : Reads DataType) (f f' : ℕ → Reads Fields) (b : Bool) (m a : ℕ) (ks xs : List ℕ) → p ks xs ≡ p' ks xs
    → ((j : ℕ) → f m (drop j ks) (drop j xs) ≡ f' m (drop j ks) (drop j xs))
    → under_field p f b m a ks xs ≡ under_field p' f' b m a ks xs
same_under_field p p' f f' false m a ks xs e g = refl
same_under_field p p' f f' true m a ks xs e g = rw e (go (p' ks xs))
  where
    go : (r : Option DataType) → option_and_then (λ t. option_map (field a t) (f m (drop (size t) ks) (drop (size t) xs))) r ≡ option_and_then (λ t. option_map (field a t) (f' m (drop (size t) ks) (drop (size t) xs))) r
    go None = refl
    go (Some t) = ap (option_map (field a t)) (g (size t))

-- The bound does not matter, where it is as large as the list.
mutual
  unfolding node_in

  pub any_in : (n n' : ℕ) (ks xs : List ℕ) → length ks ≤ n → length ks ≤ n' → node_in n ks xs ≡ node_in n' ks xs
  any_in zero zero ks xs h h' = refl
  any_in zero (suc n') [] xs h h' = refl
  any_in zero (suc n') (k ∷ ks) xs h h' = absurd (omega arith)
  any_in (suc n) zero [] xs h h' = refl
  any_in (suc n) zero (k ∷ ks) xs h h' = absurd (omega arith)
  any_in (suc n) (suc n') [] xs h h' = refl
  any_in (suc n) (suc n') (k ∷ ks) [] h h' = refl
  any_in (suc n) (suc n') (k ∷ ks) (a ∷ xs) h h' =
      same_under (node_in n) (node_in n') (fields_in n) (fields_in n') (children k a) k a ks xs
      (any_in n n' ks xs (omega arith) (omega arith)) (anys_in n n' a ks xs (omega arith) (omega arith))

  pub anys_in : (n n' m : ℕ) (ks xs : List ℕ) → length ks ≤ n → length ks ≤ n' → fields_in n m ks xs ≡ fields_in n' m ks xs
  anys_in zero zero m ks xs h h' = refl
  anys_in zero (suc n') zero ks xs h h' = refl
  anys_in zero (suc n') (suc m) [] xs h h' = refl
  anys_in zero (suc n') (suc m) (k ∷ ks) xs h h' = absurd (omega arith)
  anys_in (suc n) zero zero ks xs h h' = refl
  anys_in (suc n) zero (suc m) [] xs h h' = refl
  anys_in (suc n) zero (suc m) (k ∷ ks) xs h h' = absurd (omega arith)
  anys_in (suc n) (suc n') zero ks xs h h' = refl
  anys_in (suc n) (suc n') (suc m) [] xs h h' = refl
  anys_in (suc n) (suc n') (suc m) (k ∷ ks) [] h h' = refl
  anys_in (suc n) (suc n') (suc m) (k ∷ ks) (a ∷ xs) h h' =
      same_under_field (node_in n) (node_in n') (fields_in n) (fields_in n') (eqb k Kind.Field) m a ks xs
      (any_in n n' ks xs (omega arith) (omega arith))
      (λ (j : ℕ). anys_in n n' m (drop j ks) (drop j xs) (simp length-drop (omega arith)) (simp length-drop (omega arith)))

-- Without the bound: what a node or a field says of the rest.
pub node_step : (ks xs : List ℕ) → node_at ks xs ≡ step_node node_at fields_at ks xs
unfolding node_at fields_at node_in
node_step [] xs = refl
node_step (k ∷ ks) [] = refl
node_step (k ∷ ks) (a ∷ xs) =
    same_under (node_in (length ks)) node_at (fields_in (length ks)) fields_at (children k a) k a ks xs refl refl

pub fields_step : (m : ℕ) (ks xs : List ℕ) → fields_at m ks xs ≡ step_fields node_at fields_at m ks xs
unfolding node_at fields_at node_in
fields_step zero [] xs = refl
fields_step zero (k ∷ ks) xs = refl
fields_step (suc m) [] xs = refl
fields_step (suc m) (k ∷ ks) [] = refl
fields_step (suc m) (k ∷ ks) (a ∷ xs) =
    same_under_field (node_in (length ks)) node_at (fields_in (length ks)) fields_at (eqb k Kind.Field) m a ks xs refl
    (λ (j : ℕ). anys_in (length ks) (length (drop j ks)) m (drop j ks) (drop j xs) (simp length-drop (omega arith)) (omega arith))

-- the node at a position
pub node_at_lem : (ks xs : List ℕ) (at : ℕ) → at < length ks → at < length xs → (s : Children) → children (get_or ks at 0) (get_or xs at 0) ≡ s → node_at (drop at ks) (drop at xs) ≡ under_node node_at fields_at s (get_or ks at 0) (get_or xs at 0) (drop (at + 1) ks) (drop (at + 1) xs)
node_at_lem ks xs at h h' s e = ap₂ node_at (drop-cons ks at 0 h) (drop-cons xs at 0 h') ∙ node_step _ _ ∙ rw (add-one, e)

-- fields at a position
pub fields_zero : (ks xs : List ℕ) → fields_at 0 ks xs ≡ Some empty
fields_zero ks xs = fields_step 0 ks xs

module _ (m : ℕ) (ks xs : List ℕ) (at : ℕ) (p : 0 < m) (h : at < length ks) (h' : at < length xs) where
  pub fields_at_lem : (b : Bool) → eqb (get_or ks at 0) Kind.Field ≡ b → fields_at m (drop at ks) (drop at xs) ≡ under_field node_at fields_at b (m - 1) (get_or xs at 0) (drop (at + 1) ks) (drop (at + 1) xs)
  fields_at_lem b e = ap₂ (fields_at m) (drop-cons ks at 0 h) (drop-cons xs at 0 h') ∙ go m p ∙ rw (add-one, e)
    where
      go : (n : ℕ) → 0 < n → fields_at n (get_or ks at 0 ∷ drop (suc at) ks) (get_or xs at 0 ∷ drop (suc at) xs) ≡ under_field node_at fields_at (eqb (get_or ks at 0) Kind.Field) (n - 1) (get_or xs at 0) (drop (suc at) ks) (drop (suc at) xs)
      go zero q = absurd (omega arith)
      go (suc n) q = fields_step (suc n) _ _ ∙ rw (sub-one (suc n))

-- what a kind and its argument have under them
pub children_leaf : (k a : ℕ) → k ≤ Kind.UnknownIntNeg → children k a ≡ no_child
unfolding children
children_leaf k a h = rw (le-leb k Kind.UnknownIntNeg h)

pub children_list : (k a : ℕ) → k ≡ Kind.List → a ≡ 0 → children k a ≡ under_list
unfolding children
children_list k a p q = rw (p, q)

pub children_list_bad : (k a : ℕ) → k ≡ Kind.List → (a ≡ 0 → ⊥) → children k a ≡ no_type
unfolding children
children_list_bad k a p q = rw (p, ne_eqb a 0 q)

pub children_array : (k a : ℕ) → k ≡ Kind.Array → children k a ≡ under_array
unfolding children
children_array k a p = rw p

pub children_struct : (k a : ℕ) → k ≡ Kind.Struct → children k a ≡ fields
unfolding children
children_struct k a p = rw p

-- A part of a slice up to its end is what is left after the first j.
pub rest : (l : List ℕ) (j : ℕ) → take (length l - j) (drop j l) ≡ drop j l
rest l j = take_all (length l - j) (drop j l) (simp length-drop (omega arith))
