-- The fields of a name, met one by one: what each loop over fields keeps. Assumes nothing.
use mathlib.Core.Path.{◌≡◌, refl, sym, ap, ◌∙◌, subst}
use mathlib.Core.Bool.{Bool, true, false, cond, ◌||◌}
use mathlib.Core.List.{List, [], ◌∷◌}
use Rattle.std.specs.Prelude.{Option, None, Some, is_some}
use Prim.Native.Nat.{ℕ, ◌-◌}
use lib.Dec.{eqb}
use borrow.Author.Tests.{eq-eqb, ne_eqb}
use Rattle.flat.specs.Tree.{DataType, Fields, empty, field, size}
use Rattle.flat.specs.Walk.{run_at}
use Rattle.supertype_nested.specs.Step.{in_place}
use Rattle.supertype_nested.specs.Union.{named, last_or, seen, with_names}
use Rattle.supertype_nested.proofs.Union.{turned_true, turned_false}
use Rattle.supertype_place.specs.declared.view.FlatField.{FlatField}
use Rattle.supertype_place.specs.declared.view.FlatFields.{FlatFields}
use Rattle.supertype_place.specs.declared.view.Found.{Found}
use Rattle.supertype_place.specs.View.{from, run_stands}
use Rattle.supertype_place.specs.Viewed.{viewed, viewed_run, FirstAt, Leads, FoundIn, FoundFrom, from_named}
use Rattle.supertype_place.proofs.Views.{run_front, run_stood, first_field, behind_front}

-- ---- the first field

module _ {fs : FlatFields} {f : FlatField} (h : FirstAt fs f) where
  -- the fields behind it, by a number that equals its type's size
  pub behind_stands : {n : ℕ} → n ≡ size (viewed f.dtype)
      → run_stands (fs.left - 1) (from n f.dtype.kinds.now) (from n f.dtype.args.now) ≡ true
  behind_stands e = rw (e, h.kinds, h.args) (run_stood (behind_front (run_front fs.stand) h.left))

  pub fields_behind : {n : ℕ} → n ≡ size (viewed f.dtype)
      → viewed_run fs
      ≡ field f.name (viewed f.dtype) (run_at (fs.left - 1) (from n f.dtype.kinds.now) (from n f.dtype.args.now))
  fields_behind e = rw (e, h.name, h.kinds, h.args) (first_field (run_front fs.stand) h.left)

-- ---- the fields of a name

-- a field of the name, and one of another
pub named_yes : (name other : ℕ) (t : DataType) (fs : Fields) → other ≡ name
    → named name (field other t fs) ≡ field name t (named name fs)
unfolding named
named_yes name other t fs e =
    rw (eq-eqb name other (sym e)) (ap (λ (n : ℕ). field n t (named name fs)) e)

pub named_no : (name other : ℕ) (t : DataType) (fs : Fields) → (other ≡ name → ⊥)
    → named name (field other t fs) ≡ named name fs
unfolding named
named_no name other t fs e = rw (ne_eqb name other (λ d. e (sym d)))

-- ---- a name among those of fields

-- a name that was seen before
pub seen_more : (name : ℕ) (fs : Fields) (ns : List ℕ) → seen ns name ≡ true → seen (with_names fs ns) name ≡ true
unfolding seen with_names
seen_more name empty ns e = e
seen_more name (field other t fs) ns e = seen_more name fs (other ∷ ns) (go (eqb other name))
  where
    go : (b : Bool) → (b || seen ns name) ≡ true
    go true = refl
    go false = e

-- some fields
abbrev Any : Fields → Type 0
Any empty = ⊥
Any (field name t fs) = Unit {0}

-- a name that a field has is seen
pub has_yes : (name : ℕ) (fs : Fields) (ns : List ℕ) → Any (named name fs) → seen (with_names fs ns) name ≡ true
unfolding named seen with_names
has_yes name empty ns e = absurd e
has_yes name (field other t fs) ns e = go (eqb name other) refl e (λ h. has_yes name fs (other ∷ ns) h)
  where
    go : (b : Bool) → eqb name other ≡ b → Any (cond b (field other t (named name fs)) (named name fs))
        → (Any (named name fs) → seen (with_names fs (other ∷ ns)) name ≡ true)
        → seen (with_names fs (other ∷ ns)) name ≡ true
    go true p h r =
        seen_more name fs (other ∷ ns) (ap (λ (b : Bool). b || seen ns name) (turned_true name other p))
    go false p h r = r h

-- a name that none has is seen where it was before
pub has_no : (name : ℕ) (fs : Fields) (ns : List ℕ) → named name fs ≡ empty
    → seen (with_names fs ns) name ≡ seen ns name
unfolding named seen with_names
has_no name empty ns e = refl
has_no name (field other t fs) ns e = go (eqb name other) refl e (has_no name fs (other ∷ ns))
  where
    go : (b : Bool) → eqb name other ≡ b → cond b (field other t (named name fs)) (named name fs) ≡ empty
        → (named name fs ≡ empty → seen (with_names fs (other ∷ ns)) name ≡ (eqb other name || seen ns name))
        → seen (with_names fs (other ∷ ns)) name ≡ seen ns name
    go true p h r = absurd (subst Any h tt)
    go false p h r = r h ∙ ap (λ (b : Bool). b || seen ns name) (turned_false name other p)

-- what the search for a name says of the names
pub found_seen : (name : ℕ) (fs : Fields) (r : Option Found) → FoundIn name fs r
    → is_some r ≡ seen (with_names fs []) name
unfolding seen
found_seen name fs None h = sym (has_no name fs [] h)
found_seen name fs (Some f) h = sym (has_yes name fs [] (subst Any (sym h) tt))

-- ---- the fields from the first of a name on

-- from a field of the name, and of another
pub from_yes : (name other : ℕ) (t : DataType) (fs : Fields) → other ≡ name
    → from_named name (field other t fs) ≡ field other t fs
unfolding from_named
from_yes name other t fs e = rw (eq-eqb name other (sym e))

pub from_no : (name other : ℕ) (t : DataType) (fs : Fields) → (other ≡ name → ⊥)
    → from_named name (field other t fs) ≡ from_named name fs
unfolding from_named
from_no name other t fs e = rw (ne_eqb name other (λ d. e (sym d)))

-- they have all of that name
pub named_from : (name : ℕ) (fs : Fields) → named name (from_named name fs) ≡ named name fs
unfolding named from_named
named_from name empty = refl
named_from name (field other t fs) = go (eqb name other) refl (named_from name fs)
  where
    go : (b : Bool) → eqb name other ≡ b → named name (from_named name fs) ≡ named name fs
        → named name (cond b (field other t fs) (from_named name fs))
        ≡ cond b (field other t (named name fs)) (named name fs)
    go true p h = ap (λ (b : Bool). cond b (field other t (named name fs)) (named name fs)) p
    go false p h = h

-- where none is left, none has the name
pub from_none : (name : ℕ) (fs rest : Fields) → from_named name fs ≡ from_named name rest → rest ≡ empty
    → named name fs ≡ empty
unfolding named from_named
from_none name fs rest e z = sym (named_from name fs) ∙ ap (named name) (e ∙ ap (from_named name) z)

-- a step of the search for them comes to the first
module _ (name other : ℕ) (t : DataType) (fs rest behind : Fields) (e : from_named name fs ≡ from_named name rest)
    (d : rest ≡ field other t behind) where
  pub from_found : other ≡ name → (rest ≡ from_named name fs) × Leads name rest
  from_found h = (
    d ∙ sym (e ∙ ap (from_named name) d ∙ from_yes name other t behind h),
    subst (Leads name) (sym d) h,
  )

  -- or goes past one of another name
  pub from_past : (other ≡ name → ⊥) → from_named name fs ≡ from_named name behind
  from_past h = e ∙ ap (from_named name) d ∙ from_no name other t behind h

-- the first of them, and the fields behind it
pub from_first : (name other : ℕ) (t : DataType) (fs rest behind : Fields) → rest ≡ from_named name fs
    → Leads name rest → rest ≡ field other t behind → named name fs ≡ field name t (named name behind)
from_first name other t fs rest behind w l d =
    sym (named_from name fs) ∙ ap (named name) (sym w ∙ d) ∙ named_yes name other t behind (subst (Leads name) d l)

-- what the search says of the names
led_any : (name : ℕ) (fs : Fields) → Leads name fs → Any (named name fs)
unfolding named
led_any name empty e = e
led_any name (field other t fs) e = subst Any (sym (named_yes name other t fs e)) tt

pub from_seen : (name : ℕ) (fs : Fields) (r : Option FlatFields) → FoundFrom name fs r
    → is_some r ≡ seen (with_names fs []) name
unfolding seen
from_seen name fs None h = sym (has_no name fs [] h)
from_seen name fs (Some gs) h =
    sym (has_yes name fs [] (subst Any (ap (named name) h.0 ∙ named_from name fs) (led_any name (viewed_run gs) h.1)))

-- ---- the last type of a name

-- of a field of the name, and of one of another
pub last_yes : (name other : ℕ) (t u : DataType) (fs : Fields) → other ≡ name
    → last_or name t (field other u fs) ≡ last_or name u fs
unfolding last_or
last_yes name other t u fs e = rw (eq-eqb name other (sym e))

pub last_no : (name other : ℕ) (t u : DataType) (fs : Fields) → (other ≡ name → ⊥)
    → last_or name t (field other u fs) ≡ last_or name t fs
unfolding last_or
last_no name other t u fs e = rw (ne_eqb name other (λ d. e (sym d)))

-- ---- the names of two runs

-- two fields of one name, and of two names
pub place_yes : (name other : ℕ) (t u : DataType) (fs gs : Fields) → name ≡ other
    → in_place (field name t fs) (field other u gs) ≡ in_place fs gs
unfolding in_place
place_yes name other t u fs gs e = rw (eq-eqb name other e)

pub place_no : (name other : ℕ) (t u : DataType) (fs gs : Fields) → (name ≡ other → ⊥)
    → in_place (field name t fs) (field other u gs) ≡ false
unfolding in_place
place_no name other t u fs gs e = rw (ne_eqb name other e)

-- the left ones end, or the right ones do
pub place_end : (gs : Fields) → in_place empty gs ≡ true
unfolding in_place
place_end gs = refl

pub place_over : (fs : Fields) → in_place fs empty ≡ true
unfolding in_place
place_over empty = refl
place_over (field name t fs) = refl
