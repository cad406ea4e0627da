-- The answers of `can_cast_to`. Assumes nothing: these are definitions.
use Rattle.std.specs.Prelude.{Bool, Option, Result, Ok, Err}
use Rattle.flat.specs.Reading.{Reading}
use Rattle.flat.specs.Both.{both_of}
use Rattle.flat.specs.declared.error.Error.{Error}
use Rattle.dtype_cast.specs.Cast.{can_cast_to}

-- the answer on two types: the first through 1 to 5, then the second, then the verdict, the source's Option
abbrev pub cast_of : Reading → Reading → Result (Option Bool) Error
cast_of = both_of Err (λ t u. Ok (can_cast_to t u))
