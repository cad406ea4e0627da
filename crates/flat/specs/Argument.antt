-- The rule of each kind's argument, in the words of document 01. Assumes nothing: these are definitions.
use Rattle.std.specs.Prelude.{Bool, true, cond, ◌&&◌, ℕ, ◌/◌, ◌%◌, ◌^◌, leb, ltb, eqb}
use Rattle.flat.specs.Kind

-- 0 ns, 1 µs, 2 ms
abbrev pub time_units : ℕ
time_units = 3

-- DEC128_MAX_PREC: the most digits of a Decimal
abbrev pub dec128_max_prec : ℕ
dec128_max_prec = 38

-- what a rule can be: only 0, a form of its own, below a number, or any argument
pub data Rule : Type 0 where
  zero decimal datetime : Rule
  below : ℕ → Rule
  free : Rule

-- the rule of a kind: those that are not named have the argument 0
unfoldable pub argument_rule : ℕ → Rule
argument_rule k =
    cond (eqb k Kind.Decimal) decimal
    (cond (eqb k Kind.Datetime) datetime
    (cond (eqb k Kind.Duration) (below time_units)
    (cond (eqb k Kind.UnknownIntPos) free
    (cond (eqb k Kind.UnknownIntNeg) free
    (cond (eqb k Kind.Array) free
    (cond (eqb k Kind.Struct) (below 256)
    (cond (eqb k Kind.Field) (below (2 ^ 32))
    zero)))))))

-- 256 × scale + precision: precision 1 to 38, scale 0 to precision
abbrev pub decimal_fits : ℕ → Bool
decimal_fits a = leb 1 (a % 256) && leb (a % 256) dec128_max_prec && leb (a / 256) (a % 256)

-- 4 × zone + unit: zone below 2^32
abbrev pub datetime_fits : ℕ → Bool
datetime_fits a = ltb (a % 4) time_units && ltb (a / 4) (2 ^ 32)

-- an argument that follows a rule
abbrev pub follows : Rule → ℕ → Bool
follows zero a = eqb a 0
follows decimal a = decimal_fits a
follows datetime a = datetime_fits a
follows (below n) a = ltb a n
follows free a = true

-- a is an argument of the kind k; a code above 31 is no kind, and has none
unfoldable pub argument_fits : ℕ → ℕ → Bool
argument_fits k a = leb k Kind.Field && follows (argument_rule k) a

-- one node is a type: its kind has no child, and a is an argument of it
abbrev pub leaf_fits : ℕ → ℕ → Bool
leaf_fits k a = leb k Kind.UnknownIntNeg && argument_fits k a

-- a leaf whose argument is 0
unfoldable pub plain_leaf : ℕ → ℕ → Bool
plain_leaf k a = eqb a 0 && leaf_fits k a
