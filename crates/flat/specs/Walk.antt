-- What the contract of a walk says of the two arrays that it is handed: a type stands at their front, and which.
-- Assumes nothing: these are definitions.
use Rattle.std.specs.Prelude.{◌≡◌, List, ℕ, ◌≤◌, length}
use Rattle.std.specs.Prelude.{Option, None, Some}
use Rattle.flat.specs.Tree.{DataType, leaf, Fields, empty, size, sizes}
use Rattle.flat.specs.Reader.{node_at, fields_at}

-- The type t stands at the front of ks and xs. The orders follow from the rest, and stand here for the arithmetic of
-- the code.
pub record FrontType (ks xs : List ℕ) (t : DataType) : Type 0 where
  pub read : node_at ks xs ≡ Some t
  pub even : length ks ≡ length xs
  pub pos : 1 ≤ size t
  pub within : size t ≤ length ks

-- The m fields fs stand at the front of ks and xs. The orders follow from the rest, and stand here for the arithmetic
-- of the code.
pub record FrontFields (m : ℕ) (ks xs : List ℕ) (fs : Fields) : Type 0 where
  pub read : fields_at m ks xs ≡ Some fs
  pub even : length ks ≡ length xs
  pub pos : m ≤ sizes fs
  pub within : sizes fs ≤ length ks

-- what there is, else d
abbrev pub with_default : {A : Type 0} → A → Option A → A
with_default d None = d
with_default d (Some a) = a

-- the type at the front, and Null where none stands there
unfoldable pub type_at : List ℕ → List ℕ → DataType
type_at ks xs = with_default (leaf 0 0) (node_at ks xs)

-- the m fields at the front, and none where they don't stand there
unfoldable pub run_at : ℕ → List ℕ → List ℕ → Fields
run_at m ks xs = with_default empty (fields_at m ks xs)

-- a type stands at the front
abbrev pub Valid : List ℕ → List ℕ → Type 0
Valid ks xs = FrontType ks xs (type_at ks xs)

-- m fields stand at the front
abbrev pub ValidRun : ℕ → List ℕ → List ℕ → Type 0
ValidRun m ks xs = FrontFields m ks xs (run_at m ks xs)
