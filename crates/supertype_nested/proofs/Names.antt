-- The union of fields is the longest's names, then the new ones of the shortest. Assumes nothing.
use mathlib.Core.Path.{◌≡◌, refl, sym, ap, ap₂, ◌∙◌}
use mathlib.Core.Bool.{Bool, true, false, cond, ◌||◌}
use mathlib.Core.List.{List, [], ◌∷◌}
use Rattle.std.specs.Prelude.{Option, None, Some}
use Rattle.std.specs.Prelude.{option_map, option_and_then}
use Prim.Native.Nat.{ℕ, ◌≤◌, ◌<◌}
use lib.Dec.{eqb}
use borrow.Author.Tests.{eqb-true, le-leb, lt-leb}
use Rattle.flat.specs.Tree.{DataType, struct, Fields, empty, field, count, append}
use Rattle.flat.proofs.Truths.{never}
use Rattle.supertype_nested.specs.Nested.{TreeCall, insert, from_iter, join_held, enter, enter_all, union_fields}
use Rattle.supertype_nested.specs.Nested.{union_struct_fields}
use Rattle.supertype_nested.specs.Union.{last_or, join_named, seen, with_names, outside, old_names, new_names}
use Rattle.supertype_nested.specs.Union.{by_names}

-- ---- the longest

pub left_longest : (c : TreeCall) (fs gs : Fields) → count gs ≤ count fs
    → union_struct_fields c fs gs ≡ option_map struct (union_fields c fs gs)
unfolding union_struct_fields
left_longest c fs gs h = rw (le-leb (count gs) (count fs) h) refl

pub right_longest : (c : TreeCall) (fs gs : Fields) → count fs < count gs
    → union_struct_fields c fs gs ≡ option_map struct (union_fields c gs fs)
unfolding union_struct_fields
right_longest c fs gs h = rw (lt-leb (count gs) (count fs) h) refl

-- ---- the first name

-- the fields of other names
unfoldable pub without : ℕ → Fields → Fields
without name empty = empty
without name (field other u fs) = cond (eqb name other) (without name fs) (field other u (without name fs))

-- The first place of a map keeps its name and gets that name's last type; the others get what the fields of other names
-- make of them.
from_first : (name : ℕ) (t : DataType) (map fs : Fields)
    → from_iter (field name t map) fs ≡ field name (last_or name t fs) (from_iter map (without name fs))
unfolding from_iter insert last_or without
from_first name t map empty = refl
from_first name t map (field other u fs) =
    go (eqb name other) (from_first name u map fs) (from_first name t (insert other u map) fs)
  where
    go : (b : Bool)
        → from_iter (field name u map) fs ≡ field name (last_or name u fs) (from_iter map (without name fs))
        → from_iter (field name t (insert other u map)) fs
        ≡ field name (last_or name t fs) (from_iter (insert other u map) (without name fs))
        → from_iter (cond b (field name u map) (field name t (insert other u map))) fs
        ≡ field name (cond b (last_or name u fs) (last_or name t fs))
        (from_iter map (cond b (without name fs) (field other u (without name fs))))
    go true h g = h
    go false h g = g

module _ (c : TreeCall) where
  pub nothing_after : {A B : Type 0} (q : Option A) → option_and_then {T = A} {U = B} (λ a. None) q ≡ None
  nothing_after None = refl
  nothing_after (Some a) = refl

  -- the loop over the shortest, by the map's first name and the others
  abbrev Split : ℕ → DataType → Fields → Fields → Type 0
  Split name u map fs =
      enter_all c (field name u map) fs
      ≡ option_and_then (λ v. option_map (field name v) (enter_all c map (without name fs))) (join_named c name u fs)

  enter_first : (name : ℕ) (u : DataType) (map fs : Fields) → Split name u map fs
  unfolding enter_all enter join_named without
  enter_first name u map empty = refl
  enter_first name u map (field other t fs) =
      go (eqb name other) (λ v. enter_first name v map fs) (λ m. enter_first name u m fs)
    where
      on_held : (q : Option DataType) → ((v : DataType) → Split name v map fs)
          → option_and_then (λ m. enter_all c m fs) (option_map (λ st. field name st map) q)
          ≡ option_and_then (λ v. option_map (field name v) (enter_all c map (without name fs))) (option_and_then (λ st. join_named c name st fs) q)
      on_held None h = refl
      on_held (Some v) h = h v

      on_other : (q : Option Fields) → ((m : Fields) → Split name u m fs)
          → option_and_then (λ m. enter_all c m fs) (option_map (field name u) q)
          ≡ option_and_then (λ v. option_map (field name v) (option_and_then (λ m. enter_all c m (without name fs)) q)) (join_named c name u fs)
      on_other None g = sym (nothing_after (join_named c name u fs))
      on_other (Some m) g = g m

      go : (b : Bool) → ((v : DataType) → Split name v map fs) → ((m : Fields) → Split name u m fs)
          → option_and_then (λ m. enter_all c m fs)
          (cond b (option_map (λ st. field name st map) (join_held c t u)) (option_map (field name u) (enter c other t map)))
          ≡ option_and_then (λ v. option_map (field name v) (enter_all c map (cond b (without name fs) (field other t (without name fs)))))
          (cond b (option_and_then (λ st. join_named c name st fs) (join_held c t u)) (join_named c name u fs))
      go true h g = on_held (join_held c t u) h
      go false h g = on_other (enter c other t map) g

  -- The longest's first name: its last type there, with the fields of its name in the shortest; then the other names of
  -- both.
  pub old_name : (name : ℕ) (t : DataType) (fs gs : Fields)
      → enter_all c (from_iter empty (field name t fs)) gs
      ≡ option_and_then (λ v. option_map (field name v) (enter_all c (from_iter empty (without name fs)) (without name gs)))
      (join_named c name (last_or name t fs) gs)
  unfolding from_iter insert
  old_name name t fs gs =
      ap (λ (m : Fields). enter_all c m gs) (from_first name t empty fs)
      ∙ enter_first name (last_or name t fs) (from_iter empty (without name fs)) gs

  -- No name of the longest is left: the shortest's first name, with its first type; then the others.
  pub new_name : (name : ℕ) (t : DataType) (gs : Fields)
      → enter_all c empty (field name t gs)
      ≡ option_and_then (λ v. option_map (field name v) (enter_all c empty (without name gs))) (join_named c name t gs)
  unfolding enter_all enter
  new_name name t gs = enter_first name t empty gs

-- ---- the names not seen yet

-- a name that is one with another is seen where that is
pub one_seen : (ns : List ℕ) (n m : ℕ) → eqb n m ≡ true → seen ns n ≡ seen ns m
one_seen ns n m e = ap (seen ns) (eqb-true n m e)

-- one name more to leave out
out_cons : (n : ℕ) (ns : List ℕ) (fs : Fields) → outside (n ∷ ns) fs ≡ without n (outside ns fs)
unfolding outside without seen
out_cons n ns empty = refl
out_cons n ns (field m t fs) = go (eqb n m) (seen ns m) refl (out_cons n ns fs)
  where
    kept : Bool → Fields
    kept b = cond b (without n (outside ns fs)) (field m t (without n (outside ns fs)))

    go : (a b : Bool) → eqb n m ≡ a → outside (n ∷ ns) fs ≡ without n (outside ns fs)
        → cond (a || b) (outside (n ∷ ns) fs) (field m t (outside (n ∷ ns) fs))
        ≡ without n (cond b (outside ns fs) (field m t (outside ns fs)))
    go true true q h = h
    go true false q h = h ∙ sym (ap kept q)
    go false true q h = h
    go false false q h = ap (field m t) h ∙ sym (ap kept q)

-- a name that is seen already
pub out_same : (n : ℕ) (ns : List ℕ) (fs : Fields) → seen ns n ≡ true → outside (n ∷ ns) fs ≡ outside ns fs
unfolding outside seen
out_same n ns empty e = refl
out_same n ns (field m t fs) e = go (eqb n m) (seen ns m) refl refl (out_same n ns fs e)
  where
    go : (a b : Bool) → eqb n m ≡ a → seen ns m ≡ b → outside (n ∷ ns) fs ≡ outside ns fs
        → cond (a || b) (outside (n ∷ ns) fs) (field m t (outside (n ∷ ns) fs))
        ≡ cond b (outside ns fs) (field m t (outside ns fs))
    go true true q r h = h
    go true false q r h = never (sym r ∙ sym (one_seen ns n m q) ∙ e)
    go false true q r h = h
    go false false q r h = ap (field m t) h

-- leaving others out changes neither a name's last type nor its joins
last_out : (n : ℕ) (ns : List ℕ) (t : DataType) (fs : Fields) → seen ns n ≡ false
    → last_or n t (outside ns fs) ≡ last_or n t fs
unfolding outside last_or
last_out n ns t empty e = refl
last_out n ns t (field m u fs) e = go (eqb n m) (seen ns m) refl refl (last_out n ns t fs e) (last_out n ns u fs e)
  where
    last : Bool → DataType
    last b = cond b (last_or n u (outside ns fs)) (last_or n t (outside ns fs))

    go : (a b : Bool) → eqb n m ≡ a → seen ns m ≡ b → last_or n t (outside ns fs) ≡ last_or n t fs
        → last_or n u (outside ns fs) ≡ last_or n u fs
        → last_or n t (cond b (outside ns fs) (field m u (outside ns fs))) ≡ cond a (last_or n u fs) (last_or n t fs)
    go true true q r h g = never (sym e ∙ one_seen ns n m q ∙ r)
    go true false q r h g = ap last q ∙ g
    go false true q r h g = h
    go false false q r h g = ap last q ∙ h

module _ (c : TreeCall) where
  named_out : (n : ℕ) (ns : List ℕ) (u : DataType) (fs : Fields) → seen ns n ≡ false
      → join_named c n u (outside ns fs) ≡ join_named c n u fs
  unfolding outside join_named
  named_out n ns u empty e = refl
  named_out n ns u (field m t fs) e = go (eqb n m) (seen ns m) refl refl (λ v. named_out n ns v fs e)
    where
      step : Bool → Option DataType
      step b = cond b (option_and_then (λ st. join_named c n st (outside ns fs)) (join_held c t u)) (join_named c n u (outside ns fs))

      on_held : (q : Option DataType) → ((v : DataType) → join_named c n v (outside ns fs) ≡ join_named c n v fs)
          → option_and_then (λ st. join_named c n st (outside ns fs)) q ≡ option_and_then (λ st. join_named c n st fs) q
      on_held None h = refl
      on_held (Some v) h = h v

      go : (a b : Bool) → eqb n m ≡ a → seen ns m ≡ b
          → ((v : DataType) → join_named c n v (outside ns fs) ≡ join_named c n v fs)
          → join_named c n u (cond b (outside ns fs) (field m t (outside ns fs)))
          ≡ cond a (option_and_then (λ st. join_named c n st fs) (join_held c t u)) (join_named c n u fs)
      go true true q r h = never (sym e ∙ one_seen ns n m q ∙ r)
      go true false q r h = ap step q ∙ on_held (join_held c t u) h
      go false true q r h = h u
      go false false q r h = ap step q ∙ h u

  -- ---- all names

  -- a field of the name n, where its type is found, and the fields behind it, where they are
  abbrev before : ℕ → Option DataType → Option Fields → Option Fields
  before n p q = option_and_then (λ st. option_map (field n st) q) p

  new_names_lem : (ns : List ℕ) (gs : Fields) → enter_all c empty (outside ns gs) ≡ new_names c ns gs
  unfolding outside new_names enter_all
  new_names_lem ns empty = refl
  new_names_lem ns (field n t gs) = go (seen ns n) refl (new_names_lem (n ∷ ns) gs)
    where
      go : (b : Bool) → seen ns n ≡ b → enter_all c empty (outside (n ∷ ns) gs) ≡ new_names c (n ∷ ns) gs
          → enter_all c empty (cond b (outside ns gs) (field n t (outside ns gs)))
          ≡ cond b (new_names c (n ∷ ns) gs) (before n (join_named c n t gs) (new_names c (n ∷ ns) gs))
      go true e h = ap (enter_all c empty) (sym (out_same n ns gs e)) ∙ h
      go false e h =
          new_name c n t (outside ns gs)
          ∙ ap₂ (before n) (named_out n ns t gs e) (ap (enter_all c empty) (sym (out_cons n ns gs)) ∙ h)

  -- fields, then others
  abbrev followed : Option Fields → Option Fields → Option Fields
  followed p q = option_and_then (λ old. option_map (append old) q) p

  after_none : (q : Option Fields) → q ≡ followed (Some empty) q
  unfolding append
  after_none None = refl
  after_none (Some fs) = refl

  push_in : (n : ℕ) (p : Option DataType) (o q : Option Fields) → before n p (followed o q) ≡ followed (before n p o) q
  unfolding append
  push_in n None o q = refl
  push_in n (Some v) None q = refl
  push_in n (Some v) (Some d) None = refl
  push_in n (Some v) (Some d) (Some e) = refl

  -- the loop over what is left of both
  abbrev loop : Fields → Fields → Option Fields
  loop fs gs = enter_all c (from_iter empty fs) gs

  old_names_lem : (gs : Fields) (ns : List ℕ) (fs : Fields)
      → loop (outside ns fs) (outside ns gs) ≡ followed (old_names c gs ns fs) (new_names c (with_names fs ns) gs)
  unfolding outside old_names with_names from_iter
  old_names_lem gs ns empty = new_names_lem ns gs ∙ after_none (new_names c ns gs)
  old_names_lem gs ns (field n t fs) = go (seen ns n) refl (old_names_lem gs (n ∷ ns) fs)
    where
      joins : Option DataType
      joins = join_named c n (last_or n t fs) gs

      new : Option Fields
      new = new_names c (with_names fs (n ∷ ns)) gs

      go : (b : Bool) → seen ns n ≡ b
          → loop (outside (n ∷ ns) fs) (outside (n ∷ ns) gs) ≡ followed (old_names c gs (n ∷ ns) fs) new
          → loop (cond b (outside ns fs) (field n t (outside ns fs))) (outside ns gs)
          ≡ followed (cond b (old_names c gs (n ∷ ns) fs) (before n joins (old_names c gs (n ∷ ns) fs))) new
      go true e h = ap₂ loop (sym (out_same n ns fs e)) (sym (out_same n ns gs e)) ∙ h
      go false e h =
          old_name c n t (outside ns fs) (outside ns gs)
          ∙ ap₂ (before n)
          (ap (λ (z : DataType). join_named c n z (outside ns gs)) (last_out n ns t fs e)
          ∙ named_out n ns (last_or n t fs) gs e)
          (ap₂ loop (sym (out_cons n ns fs)) (sym (out_cons n ns gs)) ∙ h)
          ∙ push_in n joins (old_names c gs (n ∷ ns) fs) new

  pub outside_none : (fs : Fields) → outside [] fs ≡ fs
  unfolding outside seen
  outside_none empty = refl
  outside_none (field n t fs) = ap (field n t) (outside_none fs)

  pub by_names_lem : (longest shortest : Fields) → union_fields c longest shortest ≡ by_names c longest shortest
  unfolding union_fields by_names
  by_names_lem fs gs = ap₂ loop (sym (outside_none fs)) (sym (outside_none gs)) ∙ old_names_lem gs [] fs
