-- Units of time (time_unit.rs) and their numbers in an argument. Assumes nothing: these are definitions.
use Rattle.std.specs.Prelude.{cond, List, [], ◌∷◌, ℕ, eqb, Result, Ok, Err}
use Rattle.flat.specs.declared.error.Error.{Error}
use Rattle.flat.specs.declared.error.Error.TheVariants.{Argument}
use Rattle.dtype.specs.declared.time_unit.TimeUnit.{TimeUnit}
use Rattle.dtype.specs.declared.time_unit.TimeUnit.TheVariants.{Nanoseconds, Microseconds, Milliseconds}

-- document 01's number of a unit
abbrev pub unit_number : TimeUnit → ℕ
unit_number Nanoseconds = 0
unit_number Microseconds = 1
unit_number Milliseconds = 2

-- the unit of a number; a number that is no unit's is refused by 3
unfoldable pub unit_of : ℕ → Result TimeUnit Error
unit_of n =
    cond (eqb n (unit_number Nanoseconds)) (Ok Nanoseconds)
    (cond (eqb n (unit_number Microseconds)) (Ok Microseconds)
    (cond (eqb n (unit_number Milliseconds)) (Ok Milliseconds)
    (Err Argument)))

-- `to_ascii`: "ns", "us" and "ms", each letter by its number in ASCII
abbrev pub to_ascii : TimeUnit → List ℕ
to_ascii Nanoseconds = 110 ∷ 115 ∷ []
to_ascii Microseconds = 117 ∷ 115 ∷ []
to_ascii Milliseconds = 109 ∷ 115 ∷ []
