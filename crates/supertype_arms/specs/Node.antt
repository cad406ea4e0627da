-- The parts of a node's argument, and the types that have them. Assumes nothing: these are definitions.
use Rattle.std.specs.Prelude.{Bool, not, [], ◌∷◌, ℕ, ◌+◌, ◌*◌, ◌/◌, ◌%◌, ℤ, pos, negsuc, Result, Ok, Err}
use Rattle.flat.specs.Kind
use Rattle.flat.specs.Argument.{leaf_fits}
use Rattle.flat.specs.declared.error.Error.{Error}
use Rattle.flat.specs.declared.Node.{Node}
use Rattle.dtype.specs.Match.{among}
use Rattle.dtype.specs.TimeUnit.{unit_number, unit_of}
use Rattle.dtype.specs.Equality.{equal_node}
use Rattle.dtype.specs.declared.time_unit.TimeUnit.{TimeUnit}
use Rattle.dtype.specs.declared.time_unit.TimeUnit.TheVariants.{Milliseconds}
use Rattle.supertype_numbers.specs.DynInt.{value_of}
use Rattle.supertype_answer.specs.Join.{node}

-- Decimal(precision, scale): 256 × scale + precision
abbrev pub precision : Node → ℕ
precision n = n.arg % 256

abbrev pub scale : Node → ℕ
scale n = n.arg / 256

abbrev pub decimal : ℕ → ℕ → Node
decimal p s = node Kind.Decimal (256 * s + p)

-- the unit that was read: a type has one, and where there is none Milliseconds stands for it
abbrev pub unit_in : Result TimeUnit Error → TimeUnit
unit_in (Ok u) = u
unit_in (Err e) = Milliseconds

-- Datetime(unit, zone): 4 × zone + unit, zone 0 for none; Duration(unit) has the unit alone
abbrev pub unit : Node → TimeUnit
unit n = unit_in (unit_of (n.arg % 4))

abbrev pub zone : Node → ℕ
zone n = n.arg / 4

abbrev pub datetime : TimeUnit → ℕ → Node
datetime u z = node Kind.Datetime (4 * z + unit_number u)

abbrev pub duration : TimeUnit → Node
duration u = node Kind.Duration (unit_number u)

-- the v of `Unknown(Int(v))`, and the node of a v
abbrev pub value : Node → ℤ
value n = value_of n.kind n.arg

abbrev pub dyn_int : ℤ → Node
dyn_int (pos v) = node Kind.UnknownIntPos v
dyn_int (negsuc v) = node Kind.UnknownIntNeg v

-- `==`
abbrev pub same : Node → Node → Bool
same l r = equal_node l.kind l.arg r.kind r.arg

-- a kind that has no argument
unfoldable pub plain : ℕ → Bool
plain k = not (among (Kind.Decimal ∷ Kind.Datetime ∷ Kind.Duration ∷ Kind.UnknownIntPos ∷ Kind.UnknownIntNeg ∷ []) k)

-- a node that is a type
unfoldable pub fits : Node → Bool
fits n = leaf_fits n.kind n.arg
