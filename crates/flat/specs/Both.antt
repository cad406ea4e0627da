-- Calls on two types: document 01's "left type through 1 to 5, then right, then the rest". Assumes nothing: these are
-- definitions.
use Rattle.flat.specs.Tree.{DataType, leaf}
use Rattle.flat.specs.Reading.{Reading, refused, type}
use Rattle.flat.specs.declared.error.Error.{Error}
use Rattle.flat.specs.declared.Node.{Node}
use Rattle.std.specs.Prelude.{Result, Ok, Err}

-- the left type's refusal, else the right one's, else what the rule says of the two types
unfoldable pub both_of : {A : Type 0} → (Error → A) → (DataType → DataType → A) → Reading → Reading → A
both_of refusal rule (refused e) right = refusal e
both_of refusal rule (type t) (refused e) = refusal e
both_of refusal rule (type t) (type u) = rule t u

-- a type told by its root: the whole type where it has no children
abbrev pub root_reading : Result Node Error → Reading
root_reading (Ok n) = type (leaf n.kind n.arg)
root_reading (Err e) = refused e
