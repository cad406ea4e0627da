-- How a type and an answer are recorded. Assumes nothing: these are definitions.
use Rattle.std.specs.Prelude.{ℕ, List, ◌∷◌, ◌++◌, length}
use Rattle.flat.specs.declared.reply.Reply.{Reply}

-- an answer as it is recorded: its number, its value and its result
unfoldable pub record_of : Reply → List ℕ → List ℕ → List ℕ
record_of given kinds args = given.number ∷ given.value ∷ (kinds ++ args)

-- a type as it is recorded: the number of its kinds, the kinds, the number of its arguments, the arguments
unfoldable pub type_record : List ℕ → List ℕ → List ℕ
type_record kinds args = length kinds ∷ (kinds ++ (length args ∷ args))
