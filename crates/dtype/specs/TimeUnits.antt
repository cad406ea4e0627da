-- `get_time_units` of utils/mod.rs. Assumes nothing: these are definitions.
use Rattle.std.specs.Prelude.{Bool, cond, ◌&&◌, eqb, Result, Ok, Err}
use Rattle.flat.specs.declared.error.Error.{Error}
use Rattle.dtype.specs.TimeUnit.{unit_number}
use Rattle.dtype.specs.declared.time_unit.TimeUnit.{TimeUnit}
use Rattle.dtype.specs.declared.time_unit.TimeUnit.TheVariants.{Nanoseconds, Microseconds, Milliseconds}

-- the source's pattern of one unit
abbrev pub is_unit : TimeUnit → TimeUnit → Bool
is_unit u v = eqb (unit_number v) (unit_number u)

-- the source's three arms, in its order
unfoldable pub get_time_units : TimeUnit → TimeUnit → TimeUnit
get_time_units l r =
    cond (is_unit Nanoseconds l && is_unit Microseconds r) Microseconds
    (cond (is_unit Milliseconds r) Milliseconds
    l)

-- the coarser of two units, where both are units; the left is looked at first
abbrev pub coarser_of : Result TimeUnit Error → Result TimeUnit Error → Result TimeUnit Error
coarser_of (Err e) right = Err e
coarser_of (Ok l) (Err e) = Err e
coarser_of (Ok l) (Ok r) = Ok (get_time_units l r)
