-- What an encoded type comes to that was opened. Assumes nothing: these are definitions.
use Rattle.std.specs.Prelude.{List, ℕ, Result, Ok, Err}
use Rattle.flat.specs.Tree.{kinds_of, args_of}
use Rattle.flat.specs.Reading.{Reading, refused, type}
use Rattle.flat.specs.declared.error.Error.{Error}
use Rattle.encoded.specs.declared.opened.Opened.{Opened}

-- the two arrays of a type
abbrev pub flat_of : Reading → Result (List ℕ × List ℕ) Error
flat_of (refused e) = Err e
flat_of (type t) = Ok (kinds_of t, args_of t)

-- the two arrays that stand in an answer
abbrev pub arrays_of : Result Opened Error → Result (List ℕ × List ℕ) Error
arrays_of (Err e) = Err e
arrays_of (Ok o) = Ok (o.kinds.now, o.args.now)
