-- The plan of two kinds in ascending order: what the definition answers for them in either of its two tries. Assumes
-- nothing: these are definitions.
use Rattle.std.specs.Prelude.{◌≡◌, Bool, false, ◌&&◌, ◌||◌, ℕ, ◌≤◌, ltb, eqb}
use Rattle.std.specs.Prelude.{Option, Some, option_map}
use Rattle.std.specs.Option.{option_or}
use Rattle.supertype_arms.specs.declared.plan.Plan.{Plan}
use Rattle.supertype_arms.specs.declared.plan.Plan.TheVariants.{Left, Right, Kind, Decimals, DecimalInteger}
use Rattle.supertype_arms.specs.declared.plan.Plan.TheVariants.{DatetimeDuration, Datetimes, Durations}
use Rattle.supertype_arms.specs.declared.plan.Plan.TheVariants.{DynNumber, DynBoolean, DynDecimal}
use Rattle.flat.specs.Kind.{UnknownIntNeg}
use Rattle.dtype.specs.Predicate.{is_unknown_int}
use Rattle.supertype_answer.specs.Join.{node}
use Rattle.supertype_arms.specs.Node.{plain}
use Rattle.supertype_arms.specs.Supertype.{plan_of, Call, supertype_with}

-- a plan of (r, l) as a plan of (l, r)
abbrev pub turn : Plan → Plan
turn Left = Right
turn Right = Left
turn (Kind k) = Kind k
turn Decimals = Decimals
turn DecimalInteger = DecimalInteger
turn DatetimeDuration = DatetimeDuration
turn Datetimes = Datetimes
turn Durations = Durations
turn DynNumber = DynNumber
turn DynBoolean = DynBoolean
turn DynDecimal = DynDecimal

-- the plan of the first try, else that of the second
unfoldable pub rule_of : Bool → ℕ → ℕ → Option Plan
rule_of s a b = option_or (plan_of s a b) (option_map turn (plan_of s b a))

-- two kinds out of order, or such that two types of them are always one
unfoldable pub skip : ℕ → ℕ → Bool
skip a b = (is_unknown_int a && is_unknown_int b) || (eqb a b && plain a) || ltb b a

-- two kinds in order, of two types that are not one
pub record Apart (a b : ℕ) : Type 0 where
  pub in_order : a ≤ b
  pub is_in_range : b ≤ UnknownIntNeg
  pub two : skip a b ≡ false

-- k is the kind of the supertype of two types without an argument, over every inner call, with the flag on and off
abbrev pub IsSupertype : (a b k : ℕ) → Type 0
IsSupertype a b k = (call : Call) (s : Bool) → supertype_with call s (node a 0) (node b 0) ≡ Some (node k 0)

-- p is the plan of a and b, with the flag on and off
abbrev pub Settles : ℕ → ℕ → Option Plan → Type 0
Settles a b p = (s : Bool) → p ≡ rule_of s a b
