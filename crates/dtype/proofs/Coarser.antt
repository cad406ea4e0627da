-- `get_time_units` gives the coarser of two units: the one of the larger number, whichever side it stands on.
-- Assumes nothing.
use mathlib.Core.Path.{◌≡◌, refl}
use Prim.Native.Nat.{max}
use Rattle.dtype.specs.TimeUnit.{unit_number}
use Rattle.dtype.specs.declared.time_unit.TimeUnit.{TimeUnit}
use Rattle.dtype.specs.declared.time_unit.TimeUnit.TheVariants.{Nanoseconds, Microseconds, Milliseconds}
use Rattle.dtype.specs.TimeUnits.{get_time_units}

pub coarser : (l r : TimeUnit) → unit_number (get_time_units l r) ≡ max (unit_number l) (unit_number r)
unfolding get_time_units
coarser Nanoseconds Nanoseconds = refl
coarser Nanoseconds Microseconds = refl
coarser Nanoseconds Milliseconds = refl
coarser Microseconds Nanoseconds = refl
coarser Microseconds Microseconds = refl
coarser Microseconds Milliseconds = refl
coarser Milliseconds Nanoseconds = refl
coarser Milliseconds Microseconds = refl
coarser Milliseconds Milliseconds = refl
