-- The union of fields, name by name: what stands under a name rests on the fields of that name alone. Assumes nothing.
use mathlib.Core.Path.{◌≡◌, refl, sym, ap, ◌∙◌, subst}
use mathlib.Core.Bool.{Bool, true, false, cond}
use Rattle.std.specs.Prelude.{Option, None, Some}
use Rattle.std.specs.Prelude.{option_map, option_and_then}
use Prim.Native.Nat.{ℕ}
use lib.Dec.{eqb}
use borrow.Author.Tests.{eqb-true, eqb-false, eq-eqb, ne_eqb}
use Rattle.flat.specs.Tree.{DataType, Fields, empty, field}
use Rattle.supertype_nested.specs.Nested.{TreeCall, insert, from_iter, join_held, enter, enter_all, union_fields}
use Rattle.supertype_nested.specs.Union.{named}
use Rattle.supertype_nested.proofs.Found.{If, if_told}

-- ---- two names

pub turned_true : (n m : ℕ) → eqb n m ≡ true → eqb m n ≡ true
turned_true n m e = eq-eqb m n (sym (eqb-true n m e))

pub turned_false : (n m : ℕ) → eqb n m ≡ false → eqb m n ≡ false
turned_false n m e = ne_eqb m n (λ h. eqb-false n m e (sym h))

-- ---- the map's fields of one name

insert_one : (n : ℕ) (t : DataType) (map : Fields) → named n (insert n t map) ≡ insert n t (named n map)
unfolding named insert
insert_one n t empty = rw (eq-eqb n n refl) refl
insert_one n t (field other u map) = go (eqb n other) refl (insert_one n t map)
  where
    go : (b : Bool) → eqb n other ≡ b → named n (insert n t map) ≡ insert n t (named n map)
        → named n (cond (eqb other n) (field other t map) (field other u (insert n t map)))
        ≡ insert n t (cond b (field other u (named n map)) (named n map))
    go true e h = rw (turned_true n other e, e) refl
    go false e h = rw (turned_false n other e, e) h

insert_other : (n m : ℕ) (t : DataType) (map : Fields) → eqb n m ≡ false → named n (insert m t map) ≡ named n map
unfolding named insert
insert_other n m t empty h = rw h refl
insert_other n m t (field other u map) h = go (eqb other m) refl (insert_other n m t map h)
  where
    go : (b : Bool) → eqb other m ≡ b → named n (insert m t map) ≡ named n map
        → named n (cond b (field other t map) (field other u (insert m t map)))
        ≡ cond (eqb n other) (field other u (named n map)) (named n map)
    go true e g = rw (ap (eqb n) (eqb-true other m e) ∙ h) refl
    go false e g = ap (λ (fs : Fields). cond (eqb n other) (field other u fs) fs) g

from_named : (n : ℕ) (map fs : Fields) → named n (from_iter map fs) ≡ from_iter (named n map) (named n fs)
unfolding named from_iter
from_named n map empty = refl
from_named n map (field m t fs) = go (eqb n m) refl (from_named n (insert m t map) fs)
  where
    go : (b : Bool) → eqb n m ≡ b
        → named n (from_iter (insert m t map) fs) ≡ from_iter (named n (insert m t map)) (named n fs)
        → named n (from_iter (insert m t map) fs) ≡ from_iter (named n map) (cond b (field m t (named n fs)) (named n fs))
    go true e h =
        h
        ∙ ap (λ (k : ℕ). from_iter (named n (insert k t map)) (named n fs)) (sym (eqb-true n m e))
        ∙ ap (λ (fs' : Fields). from_iter fs' (named n fs)) (insert_one n t map)
        ∙ ap (λ (k : ℕ). from_iter (insert k t (named n map)) (named n fs)) (eqb-true n m e)
    go false e h = h ∙ ap (λ (fs' : Fields). from_iter fs' (named n fs)) (insert_other n m t map e)

-- ---- the loop

module _ (c : TreeCall) (n : ℕ) where
  -- a field of the name
  enter_one : (t : DataType) (map : Fields) → option_map (named n) (enter c n t map) ≡ enter c n t (named n map)
  unfolding named enter
  enter_one t empty = rw (eq-eqb n n refl) refl
  enter_one t (field other u map) = go (eqb n other) refl (enter_one t map)
    where
      held : eqb n other ≡ true → (q : Option DataType)
          → option_map (named n) (option_map (λ st. field other st map) q) ≡ option_map (λ st. field other st (named n map)) q
      held e None = refl
      held e (Some v) = rw e refl

      skipped : eqb n other ≡ false → (q : Option Fields) → option_map (named n) (option_map (field other u) q) ≡ option_map (named n) q
      skipped e None = refl
      skipped e (Some fs) = rw e refl

      go : (b : Bool) → eqb n other ≡ b → option_map (named n) (enter c n t map) ≡ enter c n t (named n map)
          → option_map (named n)
          (cond (eqb other n) (option_map (λ st. field other st map) (join_held c t u)) (option_map (field other u) (enter c n t map)))
          ≡ enter c n t (cond b (field other u (named n map)) (named n map))
      go true e h = rw (turned_true n other e) (held e (join_held c t u))
      go false e h = rw (turned_false n other e) (skipped e (enter c n t map) ∙ h)

  -- a field of another name
  enter_other : (m : ℕ) (t : DataType) (map : Fields) → eqb n m ≡ false
      → If (λ to. named n to ≡ named n map) (enter c m t map)
  unfolding named enter
  enter_other m t empty h = rw h refl
  enter_other m t (field other u map) h = go (eqb other m) refl (enter_other m t map h)
    where
      held : eqb other m ≡ true → (q : Option DataType)
          → If (λ to. named n to ≡ named n (field other u map)) (option_map (λ st. field other st map) q)
      held e None = tt
      held e (Some v) = rw (ap (eqb n) (eqb-true other m e) ∙ h) refl

      skipped : (q : Option Fields) → If (λ to. named n to ≡ named n map) q
          → If (λ to. named n to ≡ named n (field other u map)) (option_map (field other u) q)
      skipped None g = tt
      skipped (Some fs) g = ap (λ (fs : Fields). cond (eqb n other) (field other u fs) fs) g

      go : (b : Bool) → eqb other m ≡ b → If (λ to. named n to ≡ named n map) (enter c m t map)
          → If (λ to. named n to ≡ named n (field other u map))
          (cond b (option_map (λ st. field other st map) (join_held c t u)) (option_map (field other u) (enter c m t map)))
      go true e g = held e (join_held c t u)
      go false e g = skipped (enter c m t map) g

  -- the loop over fs goes over its fields of the name as if there were no others
  abbrev Parted : Fields → Fields → Type 0
  Parted fs map = If (λ to. enter_all c (named n map) (named n fs) ≡ Some (named n to)) (enter_all c map fs)

  all_named : (fs map : Fields) → Parted fs map
  unfolding named enter_all
  all_named empty map = refl
  all_named (field m t fs) map = go (eqb n m) refl (all_named fs)
    where
      one : (q : Option Fields) → ((map : Fields) → Parted fs map)
          → If (λ to. option_and_then (λ map. enter_all c map (named n fs)) (option_map (named n) q) ≡ Some (named n to))
          (option_and_then (λ map. enter_all c map fs) q)
      one None h = tt
      one (Some map) h = h map

      other : (q : Option Fields) → ((map : Fields) → Parted fs map) → If (λ to. named n to ≡ named n map) q
          → If (λ to. enter_all c (named n map) (named n fs) ≡ Some (named n to)) (option_and_then (λ map. enter_all c map fs) q)
      other None h g = tt
      other (Some to) h g =
          subst (λ (from : Fields). If (λ to. enter_all c from (named n fs) ≡ Some (named n to)) (enter_all c to fs)) g
          (h to)

      go : (b : Bool) → eqb n m ≡ b → ((map : Fields) → Parted fs map)
          → If (λ to. enter_all c (named n map) (cond b (field m t (named n fs)) (named n fs)) ≡ Some (named n to))
          (option_and_then (λ map. enter_all c map fs) (enter c m t map))
      go true e h =
          subst
          (λ (k : ℕ).
          If (λ to. option_and_then (λ map. enter_all c map (named n fs)) (enter c k t (named n map)) ≡ Some (named n to))
          (option_and_then (λ map. enter_all c map fs) (enter c k t map)))
          (eqb-true n m e)
          (subst
          (λ (q : Option Fields).
          If (λ to. option_and_then (λ map. enter_all c map (named n fs)) q ≡ Some (named n to))
          (option_and_then (λ map. enter_all c map fs) (enter c n t map)))
          (enter_one t map) (one (enter c n t map) h))
      go false e h = other (enter c m t map) h (enter_other m t map e)

pub alone : (c : TreeCall) (longest shortest union : Fields) → union_fields c longest shortest ≡ Some union
    → (name : ℕ) → union_fields c (named name longest) (named name shortest) ≡ Some (named name union)
unfolding union_fields named
alone c longest shortest union e n =
    ap (λ (map : Fields). enter_all c map (named n shortest)) (sym (from_named n empty longest))
    ∙ if_told (λ to. enter_all c (named n (from_iter empty longest)) (named n shortest) ≡ Some (named n to))
    (enter_all c (from_iter empty longest) shortest) union e (all_named c n shortest (from_iter empty longest))
