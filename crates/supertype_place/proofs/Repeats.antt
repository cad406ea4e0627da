-- The names of fields and of others behind them, and what a run that repeats no name has before and behind a field.
-- Assumes nothing.
use mathlib.Core.Path.{◌≡◌, refl, sym, ap, ◌∙◌}
use mathlib.Core.Bool.{Bool, true, false, cond, ◌||◌, or-false}
use mathlib.Core.List.{List, [], ◌∷◌}
use Prim.Native.Nat.{ℕ, ◌+◌}
use native.Mathlib.Omega.{arith}
use lib.Dec.{eqb}
use Rattle.flat.specs.Tree.{DataType, Fields, empty, field, append, count, size, sizes}
use Rattle.flat.proofs.Truths.{impossible, never}
use Rattle.supertype_nested.specs.Step.{repeats}
use Rattle.supertype_nested.specs.Union.{named, last_or, seen, with_names}
use Rattle.supertype_nested.proofs.Plain.{Missing, Distinct, none_of, distinct}
use Rattle.supertype_place.specs.Viewed.{front_of}
use Rattle.supertype_place.proofs.Finds.{has_yes, has_no}

-- ---- of fields and others behind them

-- the fields of a name
pub append_named : (name : ℕ) (fs gs : Fields) → named name (append fs gs) ≡ append (named name fs) (named name gs)
unfolding append named
append_named name empty gs = refl
append_named name (field other t fs) gs = go (eqb name other) (append_named name fs gs)
  where
    go : (b : Bool) → named name (append fs gs) ≡ append (named name fs) (named name gs)
        → cond b (field other t (named name (append fs gs))) (named name (append fs gs))
        ≡ append (cond b (field other t (named name fs)) (named name fs)) (named name gs)
    go true h = ap (field other t) h
    go false h = h

-- the names
pub append_names : (fs gs : Fields) (ns : List ℕ) → with_names (append fs gs) ns ≡ with_names gs (with_names fs ns)
unfolding append with_names
append_names empty gs ns = refl
append_names (field name t fs) gs ns = append_names fs gs (name ∷ ns)

-- a name is repeated among the first, or in the others with the names of the first before them
pub append_repeats : (ns : List ℕ) (fs gs : Fields)
    → repeats ns (append fs gs) ≡ (repeats ns fs || repeats (with_names fs ns) gs)
unfolding append with_names repeats
append_repeats ns empty gs = refl
append_repeats ns (field name t fs) gs = go (seen ns name) (append_repeats (name ∷ ns) fs gs)
  where
    go : (b : Bool)
        → repeats (name ∷ ns) (append fs gs) ≡ (repeats (name ∷ ns) fs || repeats (with_names fs (name ∷ ns)) gs)
        → (b || repeats (name ∷ ns) (append fs gs))
        ≡ ((b || repeats (name ∷ ns) fs) || repeats (with_names fs (name ∷ ns)) gs)
    go true h = refl
    go false h = h

pub append_append : (fs gs hs : Fields) → append (append fs gs) hs ≡ append fs (append gs hs)
unfolding append
append_append empty gs hs = refl
append_append (field name t fs) gs hs = ap (field name t) (append_append fs gs hs)

pub append_none : (fs : Fields) → append fs empty ≡ fs
unfolding append
append_none empty = refl
append_none (field name t fs) = ap (field name t) (append_none fs)

pub append_sizes : (fs gs : Fields) → sizes (append fs gs) ≡ sizes fs + sizes gs
unfolding append size
append_sizes empty gs = omega arith
append_sizes (field name t fs) gs = let h = append_sizes fs gs in omega arith

pub count_append : (fs gs : Fields) → count (append fs gs) ≡ count fs + count gs
unfolding append count
count_append empty gs = omega arith
count_append (field name t fs) gs = let h = count_append fs gs in omega arith

-- the first ones
pub front_done : (fs gs : Fields) → front_of (count fs) (append fs gs) ≡ fs
unfolding append count front_of
front_done empty gs = refl
front_done (field name t fs) gs = ap (field name t) (front_done fs gs)

-- ---- a name among others

-- the fields of a name that was not seen
pub not_seen : (name : ℕ) (fs : Fields) (ns : List ℕ) → seen (with_names fs ns) name ≡ false → named name fs ≡ empty
not_seen name fs ns e = go (named name fs) refl
  where
    go : (hs : Fields) → named name fs ≡ hs → hs ≡ empty
    go empty q = refl
    go (field other t hs) q = never (sym e ∙ has_yes name fs ns (rw q tt))

-- a name is seen among those of fields, or before them
seen_with : (name : ℕ) (fs : Fields) (ns : List ℕ)
    → seen (with_names fs ns) name ≡ (seen (with_names fs []) name || seen ns name)
unfolding seen
seen_with name fs ns = go (named name fs) refl
  where
    or : Bool → Bool
    or b = b || seen ns name

    go : (hs : Fields) → named name fs ≡ hs
        → seen (with_names fs ns) name ≡ (seen (with_names fs []) name || seen ns name)
    go empty q = has_no name fs ns q ∙ sym (ap or (has_no name fs [] q))
    go (field other t hs) q = has_yes name fs ns (rw q tt) ∙ sym (ap or (has_yes name fs [] (rw q tt)))

-- where it isn't seen before them
pub not_before : (name : ℕ) (fs : Fields) (ns : List ℕ) {b : Bool} → b ≡ seen (with_names fs []) name
    → false ≡ seen ns name → b ≡ seen (with_names fs ns) name
not_before name fs ns h e =
    h
    ∙ sym (seen_with name fs ns ∙ ap (λ (b : Bool). seen (with_names fs []) name || b) (sym e)
    ∙ or-false (seen (with_names fs []) name))

-- where none of them has the name
pub not_among : (name : ℕ) (fs : Fields) (ns : List ℕ) → seen (with_names fs []) name ≡ false
    → seen (with_names fs ns) name ≡ seen ns name
not_among name fs ns e = seen_with name fs ns ∙ ap (λ (b : Bool). b || seen ns name) e

-- the last type of a name that no field has
pub last_none : (name : ℕ) (t : DataType) (fs : Fields) → named name fs ≡ empty → last_or name t fs ≡ t
unfolding named last_or
last_none name t empty e = refl
last_none name t (field other u fs) e = go (eqb name other) e (last_none name t fs)
  where
    go : (b : Bool) → cond b (field other u (named name fs)) (named name fs) ≡ empty
        → (named name fs ≡ empty → last_or name t fs ≡ t) → cond b (last_or name u fs) (last_or name t fs) ≡ t
    go true e h = impossible cc
    go false e h = h e

-- ---- a run that repeats no name

-- a name that is missing has no fields
missing_named : (name : ℕ) (fs : Fields) → Missing name fs → named name fs ≡ empty
unfolding named
missing_named name empty d = refl
missing_named name (field other t fs) d =
    ap (λ (b : Bool). cond b (field other t (named name fs)) (named name fs)) d.0 ∙ missing_named name fs d.1

-- what stands behind repeats none either
distinct_behind : (fs gs : Fields) → Distinct (append fs gs) → Distinct gs
unfolding append
distinct_behind empty gs d = d
distinct_behind (field name t fs) gs d = distinct_behind fs gs d.1

module _ (name : ℕ) (before : Fields) (t : DataType) (behind : Fields)
    (e : repeats [] (append before (field name t behind)) ≡ false) where
  -- no field before has the name of a field
  pub once_new : seen (with_names before []) name ≡ false
  unfolding repeats
  once_new =
      (none_of _ _ (none_of (repeats [] before) _ (sym (append_repeats [] before (field name t behind)) ∙ e)).1).0

  -- nor does one behind it
  pub once_last : named name behind ≡ empty
  once_last = missing_named name behind (distinct_behind before (field name t behind) (distinct _ e)).0
