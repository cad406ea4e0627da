-- The answers of the walk that the check makes. Assumes nothing: these are definitions.
use Rattle.std.specs.Prelude.{Option, None, Some, cond, ℕ, leb}
use Rattle.flat.specs.Tree.{DataType, Fields, size, sizes, depth, depths}

-- the number of nodes of a type that is no deeper than so many levels
unfoldable pub span_within : ℕ → DataType → Option ℕ
span_within levels t = cond (leb (depth t) levels) (Some (size t)) None

-- the number of nodes of fields that are no deeper than so many levels below their Struct
unfoldable pub spans_within : ℕ → Fields → Option ℕ
spans_within levels fs = cond (leb (depths fs) levels) (Some (sizes fs)) None
