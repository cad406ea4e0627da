-- The type and the fields that a view has, and what its methods tell of them. Assumes nothing: these are definitions.
use Rattle.std.specs.Prelude.{◌≡◌, Option, None, Some, cond, ℕ, zero, suc, eqb, get_or}
use Rattle.flat.specs.Tree.{DataType, Fields, empty, field, size}
use Rattle.flat.specs.Walk.{type_at, run_at}
use Rattle.supertype_nested.specs.Union.{named}
use Rattle.supertype_place.specs.View.{from}
use Rattle.supertype_place.specs.declared.view.FlatType.{FlatType}
use Rattle.supertype_place.specs.declared.view.FlatField.{FlatField}
use Rattle.supertype_place.specs.declared.view.FlatFields.{FlatFields}
use Rattle.supertype_place.specs.declared.view.Found.{Found}

abbrev pub viewed : FlatType → DataType
viewed t = type_at t.kinds.now t.args.now

abbrev pub viewed_run : FlatFields → Fields
viewed_run fs = run_at fs.left fs.kinds.now fs.args.now

-- The first field, and the fields behind it.
pub record Gives (old : FlatFields) (f : FlatField) (new : FlatFields) : Type 0 where
  pub fields : viewed_run old ≡ field f.name (viewed f.dtype) (viewed_run new)
  pub left : old.left ≡ suc new.left
  pub name : f.name ≡ get_or old.args.now 0 0
  -- where they stand
  pub kinds : f.dtype.kinds.now ≡ from 1 old.kinds.now
  pub args : f.dtype.args.now ≡ from 1 old.args.now
  pub kinds_behind : new.kinds.now ≡ from (size (viewed f.dtype)) f.dtype.kinds.now
  pub args_behind : new.args.now ≡ from (size (viewed f.dtype)) f.dtype.args.now

-- there are none
pub record Ends (old new : FlatFields) : Type 0 where
  pub none : viewed_run old ≡ empty
  pub left : old.left ≡ 0
  pub still : new ≡ old

-- a step of the loop over fields
abbrev pub GivesField : FlatFields → Option FlatField → FlatFields → Type 0
GivesField old None new = Ends old new
GivesField old (Some f) new = Gives old f new

-- The first field, and where it stands.
pub record FirstAt (fs : FlatFields) (f : FlatField) : Type 0 where
  pub behind : Fields
  pub fields : viewed_run fs ≡ field f.name (viewed f.dtype) behind
  pub left : fs.left ≡ 0 → ⊥
  pub name : f.name ≡ get_or fs.args.now 0 0
  pub kinds : f.dtype.kinds.now ≡ from 1 fs.kinds.now
  pub args : f.dtype.args.now ≡ from 1 fs.args.now

-- the first field, if there is one
abbrev pub FirstIn : FlatFields → Option FlatField → Type 0
FirstIn fs None = (viewed_run fs ≡ empty) × (fs.left ≡ 0)
FirstIn fs (Some f) = FirstAt fs f

-- the fields from the first of a name on
unfoldable pub from_named : ℕ → Fields → Fields
from_named name empty = empty
from_named name (field other t fs) = cond (eqb name other) (field other t fs) (from_named name fs)

-- the first of the fields has the name
abbrev pub Leads : ℕ → Fields → Type 0
Leads name empty = ⊥
Leads name (field other t fs) = other ≡ name

-- these, and that the first of them has the name, or that none has it
abbrev pub FoundFrom : ℕ → Fields → Option FlatFields → Type 0
FoundFrom name fs None = named name fs ≡ empty
FoundFrom name fs (Some gs) = (viewed_run gs ≡ from_named name fs) × Leads name (viewed_run gs)

-- the first field of a name, and the fields behind it, if there is one
abbrev pub FoundIn : ℕ → Fields → Option Found → Type 0
FoundIn name fs None = named name fs ≡ empty
FoundIn name fs (Some f) = named name fs ≡ field name (viewed f.dtype) (named name (viewed_run f.rest))

-- the first n fields
unfoldable pub front_of : ℕ → Fields → Fields
front_of zero fs = empty
front_of (suc n) empty = empty
front_of (suc n) (field name t fs) = field name t (front_of n fs)
