-- The answers of the calls on flat types that say yes or no. Assumes nothing: these are definitions.
use Rattle.std.specs.Prelude.{Bool, Result, Ok, Err}
use Rattle.flat.specs.Tree.{DataType}
use Rattle.flat.specs.Reading.{Reading, refused, type}
use Rattle.flat.specs.Both.{both_of}
use Rattle.flat.specs.declared.error.Error.{Error}

-- of one type
abbrev pub answer_of : (DataType → Bool) → Reading → Result Bool Error
answer_of p (refused e) = Err e
answer_of p (type t) = Ok (p t)

-- of two types: the left through 1 to 5, then the right
abbrev pub answers_of : (DataType → DataType → Bool) → Reading → Reading → Result Bool Error
answers_of p = both_of Err (λ t u. Ok (p t u))
