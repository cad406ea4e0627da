-- `get_supertype_with_options` of supertype.rs: the arms of its `inner`, nested ones among them, in the source's order;
-- and what it comes to for two types that are not nested, `or_else` the other way round included. For all types it is
-- crates/supertype_nested/specs/Nested.antt. Assumes nothing: these are definitions.
use Rattle.std.specs.Prelude.{Bool, true, false, cond, not, ◌&&◌, ◌||◌, List, [], ◌∷◌, ℕ, max, eqb, ℤ}
use Rattle.std.specs.Prelude.{Option, None, Some, option_and_then}
use Rattle.std.specs.Option.{option_or}
use Rattle.std.specs.Int.Signed.{le_z, non_neg}
use Rattle.flat.specs.Kind.{Null, Boolean, UInt8, UInt16, UInt32, UInt64, UInt128, Int8, Int16, Int32, Int64, Int128}
use Rattle.flat.specs.Kind.{Float16, Float32, Float64, Decimal, String, Binary, Date, Datetime, Duration, Time}
use Rattle.flat.specs.Kind.{UnknownAny, UnknownStr, UnknownFloat}
use Rattle.flat.specs.Kind as kind
use Rattle.flat.specs.Argument.{dec128_max_prec}
use Rattle.dtype.specs.Predicate.{is_float, is_unknown_int, is_signed_integer, is_unsigned_integer, is_integer}
use Rattle.dtype.specs.Predicate.{is_primitive_numeric, is_primitive, is_string, is_unknown}
use Rattle.dtype.specs.Physical.{physical_kind}
use Rattle.supertype_numbers.specs.DynInt.{materialize_dyn_int, materialize_dyn_int_pos, materialize_smallest_dyn_int}
use Rattle.supertype_numbers.specs.Integer.{max_of}
use Rattle.supertype_numbers.specs.Decimal.{fits_dec128}
use Rattle.dtype.specs.TimeUnits.{get_time_units}
use Rattle.flat.specs.declared.Node.{Node}
use Rattle.supertype_answer.specs.Join.{node}
use Rattle.supertype_arms.specs.Node.{precision, scale, decimal, unit, zone, datetime, duration}
use Rattle.supertype_arms.specs.Node.{value, dyn_int, same}
use Rattle.supertype_arms.specs.declared.plan.Plan.{Plan}
use Rattle.supertype_arms.specs.declared.plan.Plan.TheVariants.{Left, Right, Kind, Decimals, DecimalInteger}
use Rattle.supertype_arms.specs.declared.plan.Plan.TheVariants.{DatetimeDuration, Datetimes, Durations}
use Rattle.supertype_arms.specs.declared.plan.Plan.TheVariants.{DynNumber, DynBoolean, DynDecimal}

-- ---- the arms

-- what an arm answers: None, one of the two types, what their roots alone come to, or one of the nested arms' answers
pub data TreePlan : Type 0 where
  no_type left_type right_type : TreePlan
  roots : Plan → TreePlan
  lists arrays implode_left implode_right first_field structs each_field : TreePlan

-- which left and which right kinds an arm takes, its guard included, and what it answers
pub record Arm : Type 0 where
  pub left : ℕ → Bool
  pub right : ℕ → Bool
  pub plan : TreePlan

abbrev pub arm : (ℕ → Bool) → (ℕ → Bool) → TreePlan → Arm
arm p q a = record { left = p; right = q; plan = a }

-- the pattern of one kind
abbrev pub is : ℕ → ℕ → Bool
is k l = eqb l k

-- the pattern `_`, or a name
abbrev pub every : ℕ → Bool
every k = true

-- the arm `(l, r) => Some(k)`
infix 68 ◌&◌⇒◌
abbrev pub ◌&◌⇒◌ : ℕ → ℕ → ℕ → Arm
l & r ⇒ k = arm (is l) (is r) (roots (Kind k))

-- `(dt, Unknown(kind)) => match kind { .. }`: the arms of that match, with dt on the left and the kind on the right
unfoldable pub unknown_arms : Bool → List Arm
unknown_arms to_string =
    arm is_string (λ k. is UnknownFloat k || is_unknown_int k) (cond to_string left_type no_type)
    ∷ arm is_float (λ k. is UnknownFloat k || is_unknown_int k) left_type
    -- known or not
    ∷ arm (λ dt. is_integer dt && not (is_unknown dt)) (is UnknownFloat) (roots (Kind Float64))
    ∷ arm is_integer (is UnknownFloat) (roots (Kind UnknownFloat))
    ∷ arm is_string (is UnknownStr) left_type
    ∷ arm (is Null) is_unknown right_type
    ∷ arm is_primitive_numeric is_unknown_int (roots DynNumber)
    ∷ arm (is Boolean) is_unknown_int (roots DynBoolean)
    ∷ arm (is Decimal) is_unknown_int (roots DynDecimal)
    ∷ arm every is_unknown (roots (Kind UnknownAny))
    ∷ []

unfoldable pub arms : Bool → Bool → List Arm
arms implode to_string =
    Int8 & Boolean ⇒ Int8
    ∷ Int8 & Int16 ⇒ Int16
    ∷ Int8 & Int32 ⇒ Int32
    ∷ Int8 & Int64 ⇒ Int64
    ∷ Int8 & UInt8 ⇒ Int16
    ∷ Int8 & UInt16 ⇒ Int32
    ∷ Int8 & UInt32 ⇒ Int64
    ∷ Int8 & UInt64 ⇒ Float64
    ∷ Int8 & Float16 ⇒ Float16
    ∷ Int8 & Float32 ⇒ Float32
    ∷ Int8 & Float64 ⇒ Float64
    ∷ Int16 & Boolean ⇒ Int16
    ∷ Int16 & Int8 ⇒ Int16
    ∷ Int16 & Int32 ⇒ Int32
    ∷ Int16 & Int64 ⇒ Int64
    ∷ Int16 & UInt8 ⇒ Int16
    ∷ Int16 & UInt16 ⇒ Int32
    ∷ Int16 & UInt32 ⇒ Int64
    ∷ Int16 & UInt64 ⇒ Float64
    ∷ Int16 & Float16 ⇒ Float32
    ∷ Int16 & Float32 ⇒ Float32
    ∷ Int16 & Float64 ⇒ Float64
    ∷ Int32 & Boolean ⇒ Int32
    ∷ Int32 & Int8 ⇒ Int32
    ∷ Int32 & Int16 ⇒ Int32
    ∷ Int32 & Int64 ⇒ Int64
    ∷ Int32 & UInt8 ⇒ Int32
    ∷ Int32 & UInt16 ⇒ Int32
    ∷ Int32 & UInt32 ⇒ Int64
    ∷ Int32 & UInt64 ⇒ Float64
    ∷ Int32 & Float16 ⇒ Float64
    ∷ Int32 & Float32 ⇒ Float64
    ∷ Int32 & Float64 ⇒ Float64
    ∷ Int64 & Boolean ⇒ Int64
    ∷ Int64 & Int8 ⇒ Int64
    ∷ Int64 & Int16 ⇒ Int64
    ∷ Int64 & Int32 ⇒ Int64
    ∷ Int64 & UInt8 ⇒ Int64
    ∷ Int64 & UInt16 ⇒ Int64
    ∷ Int64 & UInt32 ⇒ Int64
    ∷ Int64 & UInt64 ⇒ Float64
    ∷ Int64 & Float16 ⇒ Float64
    ∷ Int64 & Float32 ⇒ Float64
    ∷ Int64 & Float64 ⇒ Float64
    ∷ arm (is Int128) (λ a. is_integer a || is Boolean a) (roots (Kind Int128))
    ∷ arm (is Int128) is_float (roots (Kind Float64))
    ∷ UInt8 & UInt32 ⇒ UInt32
    ∷ UInt8 & UInt64 ⇒ UInt64
    ∷ UInt16 & UInt8 ⇒ UInt16
    ∷ UInt16 & UInt32 ⇒ UInt32
    ∷ UInt16 & UInt64 ⇒ UInt64
    ∷ UInt32 & UInt64 ⇒ UInt64
    ∷ arm (is UInt128) (λ a. is_unsigned_integer a || is Boolean a) (roots (Kind UInt128))
    ∷ arm (is UInt128) is_signed_integer (roots (Kind Int128))
    ∷ arm (is UInt128) is_float (roots (Kind Float64))
    ∷ Boolean & UInt8 ⇒ UInt8
    ∷ Boolean & UInt16 ⇒ UInt16
    ∷ Boolean & UInt32 ⇒ UInt32
    ∷ Boolean & UInt64 ⇒ UInt64
    ∷ Float16 & UInt8 ⇒ Float16
    ∷ Float16 & UInt16 ⇒ Float32
    ∷ Float16 & UInt32 ⇒ Float64
    ∷ Float16 & UInt64 ⇒ Float64
    ∷ Float32 & UInt8 ⇒ Float32
    ∷ Float32 & UInt16 ⇒ Float32
    ∷ Float32 & UInt32 ⇒ Float64
    ∷ Float32 & UInt64 ⇒ Float64
    ∷ Float64 & UInt8 ⇒ Float64
    ∷ Float64 & UInt16 ⇒ Float64
    ∷ Float64 & UInt32 ⇒ Float64
    ∷ Float64 & UInt64 ⇒ Float64
    ∷ Float16 & Float32 ⇒ Float32
    ∷ Float16 & Float64 ⇒ Float64
    ∷ Float32 & Float64 ⇒ Float64
    ∷ Float32 & Float16 ⇒ Float32
    ∷ Float64 & Float16 ⇒ Float64
    ∷ Float64 & Float32 ⇒ Float64
    ∷ Date & UInt32 ⇒ Int64
    ∷ Date & UInt64 ⇒ Int64
    ∷ Date & Int32 ⇒ Int32
    ∷ Date & Int64 ⇒ Int64
    ∷ Date & Float16 ⇒ Float32
    ∷ Date & Float32 ⇒ Float32
    ∷ Date & Float64 ⇒ Float64
    ∷ arm (is Date) (is Datetime) right_type
    ∷ Datetime & UInt32 ⇒ Int64
    ∷ Datetime & UInt64 ⇒ Int64
    ∷ Datetime & Int32 ⇒ Int64
    ∷ Datetime & Int64 ⇒ Int64
    ∷ Datetime & Float16 ⇒ Float64
    ∷ Datetime & Float32 ⇒ Float64
    ∷ Datetime & Float64 ⇒ Float64
    ∷ arm (is Datetime) (is Date) left_type
    ∷ Boolean & Float16 ⇒ Float16
    ∷ Boolean & Float32 ⇒ Float32
    ∷ Boolean & Float64 ⇒ Float64
    ∷ Duration & UInt32 ⇒ Int64
    ∷ Duration & UInt64 ⇒ Int64
    ∷ Duration & Int32 ⇒ Int64
    ∷ Duration & Int64 ⇒ Int64
    ∷ Duration & Float16 ⇒ Float64
    ∷ Duration & Float32 ⇒ Float64
    ∷ Duration & Float64 ⇒ Float64
    ∷ Time & Int32 ⇒ Int64
    ∷ Time & Int64 ⇒ Int64
    ∷ Time & Float16 ⇒ Float64
    ∷ Time & Float32 ⇒ Float64
    ∷ Time & Float64 ⇒ Float64
    -- `&&` binds before `||`
    ∷ arm (λ dt. not (is UnknownAny dt) && not (is Binary dt) && to_string || not (is_primitive (physical_kind dt)))
    (is String) (roots (Kind String))
    ∷ String & Binary ⇒ Binary
    ∷ arm every (is Null) left_type
    -- with a zone or without one: the Datetime's own zone
    ∷ arm (is Duration) (is Datetime) (roots DatetimeDuration)
    ∷ arm (is Datetime) (is Duration) (roots DatetimeDuration)
    ∷ Duration & Date ⇒ Date
    ∷ Date & Duration ⇒ Date
    ∷ arm (is Duration) (is Duration) (roots Durations)
    -- its guard is read with its answer: no later arm takes two Datetimes
    ∷ arm (is Datetime) (is Datetime) (roots Datetimes)
    ∷ arm (is kind.List) (is kind.List) lists
    ∷ arm (is kind.List) (is kind.Array) lists
    ∷ arm (is kind.Array) (is kind.List) lists
    -- its guard, equal widths, is read with its answer, and so is the later arm of two Arrays: none between takes them
    ∷ arm (is kind.Array) (is kind.Array) arrays
    ∷ arm (λ dt. is kind.List dt && implode) every implode_left
    ∷ arm every (λ dt. is kind.List dt && implode) implode_right
    ∷ arm (is kind.Struct) (λ dt. is UnknownFloat dt || is_unknown_int dt) first_field
    ∷ arm (is kind.Struct) (is kind.Struct) structs
    ∷ arm (is kind.Struct) is_primitive_numeric each_field
    ∷ arm (is Decimal) (is Decimal) (roots Decimals)
    ∷ Decimal & Float16 ⇒ Float64
    ∷ Decimal & Float32 ⇒ Float64
    ∷ Decimal & Float64 ⇒ Float64
    ∷ Decimal & UnknownFloat ⇒ Float64
    ∷ arm (is Decimal) (λ dt. is_signed_integer dt || is_unsigned_integer dt) (roots DecimalInteger)
    ∷ unknown_arms to_string

-- the plan of the first arm that takes both kinds; `_ => None` where no arm does
abbrev pub choose : List Arm → ℕ → ℕ → TreePlan
choose [] a b = no_type
choose (x ∷ xs) a b = elim (x.left a && x.right b) [ true ↦ x.plan | false ↦ choose xs a b ]

-- ---- the answers, of two types that are not nested

-- a plan as one of two roots, which are then the types; no nested arm takes them
abbrev pub leaf_plan : TreePlan → Option Plan
leaf_plan no_type = None
leaf_plan left_type = Some Left
leaf_plan right_type = Some Right
leaf_plan (roots p) = Some p
leaf_plan lists = None
leaf_plan arrays = None
leaf_plan implode_left = None
leaf_plan implode_right = None
leaf_plan first_field = None
leaf_plan structs = None
leaf_plan each_field = None

-- their plan, in which the implode flag has no part
unfoldable pub plan_of : Bool → ℕ → ℕ → Option Plan
plan_of to_string a b = leaf_plan (choose (arms false to_string) a b)

abbrev pub max_dyn : ℤ → ℤ → ℤ
max_dyn v w = elim (le_z v w) [ true ↦ w | false ↦ v ]

-- a call of `get_supertype`
abbrev pub Call : Type 0
Call = Node → Node → Option Node

-- `UnknownKind::Int(v) if dt.is_primitive_numeric()`, where dt is no dyn int: the smallest fitting type
unfoldable pub smallest_fitting : ℕ → ℤ → ℕ
smallest_fitting dt v =
    cond (is_unsigned_integer dt && non_neg v) (materialize_dyn_int_pos v) (materialize_smallest_dyn_int v)

-- what the smallest fitting type is joined to
unfoldable pub dyn_number : Call → Node → ℤ → Option Node
dyn_number get_supertype dt v =
    cond (is UInt64 dt.kind && is_signed_integer (smallest_fitting dt.kind v)) (Some (node Int64 0))
    (get_supertype dt (node (smallest_fitting dt.kind v) 0))

-- `fits_orig_prec_scale`: whether the largest number of the integer type dt fits a Decimal l
unfoldable pub fits_orig_prec_scale : Node → ℕ → Bool
fits_orig_prec_scale l dt = not (is UInt128 dt || is Int128 dt) && fits_dec128 (max_of dt) (precision l) (scale l)

-- a Decimal l beside the integer type dt
unfoldable pub beside_integer : Node → ℕ → Node
beside_integer l dt = decimal (cond (fits_orig_prec_scale l dt) (precision l) dec128_max_prec) (scale l)

-- both without a zone, or both with the same one
abbrev pub same_zone : ℕ → ℕ → Bool
same_zone l r = (eqb l 0 && eqb r 0) || (not (eqb l 0) && eqb l r)

-- what a plan answers for two types
unfoldable pub run : Call → Plan → Node → Node → Option Node
run get_supertype Left l r = Some l
run get_supertype Right l r = Some r
run get_supertype (Kind k) l r = Some (node k 0)
run get_supertype Decimals l r = Some (decimal (max (precision l) (precision r)) (max (scale l) (scale r)))
-- the Decimal's own scale, whichever of the two it is
run get_supertype DecimalInteger l r =
    Some (cond (is Decimal l.kind) (beside_integer l r.kind) (beside_integer r l.kind))
run get_supertype DatetimeDuration l r =
    Some (datetime (get_time_units (unit l) (unit r)) (cond (is Datetime l.kind) (zone l) (zone r)))
run get_supertype Datetimes l r =
    cond (same_zone (zone l) (zone r)) (Some (datetime (get_time_units (unit l) (unit r)) (zone r))) None
run get_supertype Durations l r = Some (duration (get_time_units (unit l) (unit r)))
-- the maximum, were the left a dyn int too; but two dyn ints are equal
run get_supertype DynNumber l r =
    cond (is_unknown_int l.kind) (Some (dyn_int (max_dyn (value r) (value l)))) (dyn_number get_supertype l (value r))
run get_supertype DynBoolean l r = get_supertype l (node (materialize_dyn_int (value r)) 0)
run get_supertype DynDecimal l r = Some (decimal dec128_max_prec (scale l))

-- what they answer where no arm may take them
abbrev pub answered : Call → Option Plan → Node → Node → Option Node
answered get_supertype plan l r = option_and_then (λ p. run get_supertype p l r) plan

-- ---- the function, of two types that are not nested

unfoldable pub inner : Call → Bool → Node → Node → Option Node
inner get_supertype to_string l r =
    cond (same l r) (Some l) (answered get_supertype (plan_of to_string l.kind r.kind) l r)

unfoldable pub supertype_with : Call → Bool → Node → Node → Option Node
supertype_with get_supertype to_string l r =
    option_or (inner get_supertype to_string l r) (inner get_supertype to_string r l)

-- `get_supertype`, its flags the default, of two types of which neither is Unknown, so that no arm calls it again
unfoldable pub known_supertype : Call
known_supertype = supertype_with (λ l r. None) true

-- `get_supertype_with_options`, its two flags explicit: the inner calls of the dyn arms meet known types only
-- (proofs/Recursive.antt)
unfoldable pub supertype : Bool → Bool → Node → Node → Option Node
supertype implode to_string = supertype_with known_supertype to_string
