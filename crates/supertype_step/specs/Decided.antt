-- What the roots of two types decide of their supertype: one step, in which the source's two tries are one. Assumes
-- nothing: these are definitions.
use Rattle.std.specs.Prelude.{◌≡◌, true, cond, ℕ, ◌≤◌, ◌<◌, ltb, eqb}
use Rattle.std.specs.Prelude.{Option, None, Some}
use Rattle.std.specs.Prelude.{option_map, option_and_then}
use Rattle.std.specs.Option.{option_or}
use Rattle.flat.specs.Kind as kind
use Rattle.flat.specs.Argument.{argument_fits}
use Rattle.flat.specs.Tree.{DataType, leaf, list, array, struct, Fields, count, size, head_kind, head_arg}
use Rattle.flat.specs.declared.Node.{Node}
use Rattle.dtype.specs.Match.{if_struct, if_field}
use Rattle.dtype_inner.specs.Inner.{inner_dtype}
use Rattle.supertype_answer.specs.Join.{node, type_of}
use Rattle.supertype_nested.specs.Nested.{SuperTypeOptions, TreeCall, join_each, zip_fields, union_fields}
use Rattle.supertype_nested.specs.Nested.{options, supertype_tree_with}
use Rattle.supertype_nested.specs.Laws.{LeavesFit}
use Rattle.supertype_nested.specs.Step.{Fair, zip_either}
use Rattle.supertype_step.specs.declared.Side.{Side}
use Rattle.supertype_step.specs.declared.Step.{Step}
use Rattle.supertype_step.specs.declared.Options.{Options as Flags}

-- the fields of two Structs, in both tries
unfoldable pub either_fields : TreeCall → Fields → Fields → Option Fields
either_fields c fs gs =
    cond (ltb (count fs) (count gs)) (union_fields c gs fs)
    (cond (ltb (count gs) (count fs)) (union_fields c fs gs)
    (zip_either (union_fields c fs gs) (union_fields c gs fs) (zip_fields c fs gs)))

-- a List, or an Array of the node's width, of a type
abbrev pub above : Node → DataType → DataType
above n t = cond (eqb n.kind kind.Array) (array n.arg t) (list t)

-- a List of what the inner type of l comes to with r
abbrev pub within : TreeCall → DataType → DataType → Option DataType
within c l r = option_and_then (λ t. option_map list (c t r)) (inner_dtype l)

-- the first field of the Struct l with r
abbrev pub first : TreeCall → DataType → DataType → Option DataType
first c l r = if_struct None (if_field None (λ name t fs. c t r)) l

-- each field of the Struct l with r
abbrev pub each : TreeCall → DataType → DataType → Option DataType
each c l r = if_struct None (λ fs. option_map struct (join_each c fs r)) l

-- of two types that of a side; the other one is at_side side r l
abbrev pub at_side : Side → DataType → DataType → DataType
at_side Side.Left l r = l
at_side Side.Right l r = r

-- what a step answers for two types, by the calls c on their parts
unfoldable pub run_step : TreeCall → Step → DataType → DataType → Option DataType
run_step c (Step.Node n) l r = Some (type_of n)
run_step c (Step.Whole s) l r = Some (at_side s l r)
run_step c (Step.Under n) l r =
    option_and_then (λ t. option_and_then (λ u. option_map (above n) (c t u)) (inner_dtype r)) (inner_dtype l)
run_step c (Step.Within s) l r = within c (at_side s l r) (at_side s r l)
run_step c Step.StringWithin l r = option_or (within c r l) (Some (leaf kind.String 0))
run_step c (Step.First s) l r = first c (at_side s l r) (at_side s r l)
run_step c (Step.Each s) l r = each c (at_side s l r) (at_side s r l)
run_step c Step.Fields l r = if_struct None (λ fs. if_struct None (λ gs. option_map struct (either_fields c fs gs)) r) l

-- and what a decision answers: None where it is for no step
abbrev pub step_answered : TreeCall → Option Step → DataType → DataType → Option DataType
step_answered c step l r = option_and_then (λ s. run_step c s l r) step

-- ---- what the code promises of a step

-- the flags of a call, as the code has them
abbrev pub options_of : Flags → SuperTypeOptions
options_of o = options o.allow_implode_list o.allow_primitive_to_string

-- A type with the root k and its argument a, whose leaves and names follow their rules.
pub record RootOf (t : DataType) (k a : ℕ) : Type 0 where
  pub kind : head_kind t ≡ k
  pub arg : head_arg t ≡ a
  pub fits : LeavesFit t

-- A root: no field, and a leaf's argument follows its kind's rule. On the way a Struct may have more fields than a
-- valid type has.
abbrev pub NodeFits : ℕ → ℕ → Type 0
NodeFits k a = (k ≤ kind.Struct) × (k < kind.List → argument_fits k a ≡ true)

-- the node of a List or of an Array
pub data IsOver : Node → Type 0 where
  is_list : IsOver (node kind.List 0)
  is_array : {w : ℕ} → IsOver (node kind.Array w)

-- a List or an Array
pub data Wraps : DataType → Type 0 where
  list_wraps : {t : DataType} → Wraps (list t)
  array_wraps : {w : ℕ} {t : DataType} → Wraps (array w t)

-- the parts that a step calls for are there
abbrev pub HasParts : Step → DataType → DataType → Type 0
HasParts (Step.Node n) l r = Unit {0}
HasParts (Step.Whole s) l r = Unit {0}
HasParts (Step.Under n) l r = IsOver n × Wraps l × Wraps r
HasParts (Step.Within s) l r = head_kind (at_side s l r) ≡ kind.List
HasParts Step.StringWithin l r = head_kind r ≡ kind.List
HasParts (Step.First s) l r = (head_kind (at_side s l r) ≡ kind.Struct) × (head_arg (at_side s l r) ≡ 0 → ⊥)
HasParts (Step.Each s) l r = (head_kind (at_side s l r) ≡ kind.Struct) × (size (at_side s r l) ≡ 1)
HasParts Step.Fields l r = (head_kind l ≡ kind.Struct) × (head_kind r ≡ kind.Struct)

-- those of a decision
abbrev pub PartsOf : Option Step → DataType → DataType → Type 0
PartsOf None l r = Unit {0}
PartsOf (Some step) l r = HasParts step l r

-- The decision answers for two types as the source's two tries do, over the inner calls c.
pub record Decided (c : TreeCall) (o : SuperTypeOptions) (l r : DataType) (step : Option Step) : Type 0 where
  pub answers : supertype_tree_with c o l r ≡ step_answered c step l r
  pub parts : PartsOf step l r

-- And it does so for every two types with these roots, over all fair inner calls, as the function's own are.
abbrev pub DecidedBy : SuperTypeOptions → (a x b y : ℕ) → Option Step → Type 0
DecidedBy o a x b y step =
    (c : TreeCall) → Fair c → (l r : DataType) → RootOf l a x → RootOf r b y → Decided c o l r step
