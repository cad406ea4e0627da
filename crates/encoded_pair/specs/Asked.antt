-- What is asked of two types, and the answers. Assumes nothing: these are definitions.
use Rattle.std.specs.Prelude.{List, ℕ, ◌≤◌, IfSome, Result, Ok, Err}
use Rattle.flat.specs.Tree.{DataType}
use Rattle.flat.specs.Reading.{Reading}
use Rattle.flat.specs.Both.{both_of}
use Rattle.flat.specs.declared.error.Error.{Error}
use Rattle.encoded.specs.Limits.{counted}

-- The arguments of the encoded types s and t have room in arrays of so many.
pub record RoomForBoth (room : ℕ) (s t : List ℕ) : Type 0 where
  pub left : IfSome (counted s) (λ n. n ≤ room)
  pub right : IfSome (counted t) (λ n. n ≤ room)

-- What a question comes to that says so of two types: the left reading through 1 to 5, then the right.
abbrev pub asked_of : {A : Type 0} → (DataType → DataType → A) → Reading → Reading → Result A Error
asked_of says = both_of Err (λ t u. Ok (says t u))
