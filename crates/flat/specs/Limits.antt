-- Document 01's worked cases of the two limits, which are parameters. Assumes nothing: these are definitions.
use Rattle.std.specs.Prelude.{◌≡◌, ℕ, zero, suc}
use Rattle.flat.specs.Kind
use Rattle.flat.specs.Tree.{DataType, leaf, list, struct, Fields, empty, field, size, kinds_of, args_of}
use Rattle.flat.specs.Reading.{type, reading}
use Rattle.flat.specs.Refusals.{number_given}

abbrev pub int8 : DataType
int8 = leaf Kind.Int8 0

-- so many Lists, one under the other, over t
unfoldable pub lists : ℕ → DataType → DataType
lists zero t = t
lists (suc n) t = list (lists n t)

-- so many fields of the type t
unfoldable pub fields_of : ℕ → DataType → Fields
fields_of zero t = empty
fields_of (suc n) t = field 0 t (fields_of n t)

-- the flat form of t passes
abbrev pub Passes : ℕ → ℕ → DataType → Type 0
Passes nodes deep t = reading nodes deep (kinds_of t) (args_of t) ≡ type t

-- the flat form of t is refused by the number n
abbrev pub Gets : ℕ → ℕ → ℕ → DataType → Type 0
Gets n nodes deep t = number_given nodes deep (kinds_of t) (args_of t) ≡ n

-- "32 Lists over Int8 pass, 33 don't."
pub record DepthLimit (nodes deep : ℕ) : Type 0 where
  pub lists_32 : Passes nodes deep (lists 32 int8)
  pub lists_33 : Gets 5 nodes deep (lists 33 int8)

-- a Struct of 255 Int8 fields
abbrev pub wide : DataType
wide = struct (fields_of 255 int8)

-- "A Struct of 255 Int8 fields has 511 nodes and passes; 513 nodes don't." With one List over it there are 512 nodes,
-- with two 513.
pub record NodeLimit (nodes deep : ℕ) : Type 0 where
  pub nodes_511 : (size wide ≡ 511) × Passes nodes deep wide
  pub nodes_512 : (size (lists 1 wide) ≡ 512) × Passes nodes deep (lists 1 wide)
  pub nodes_513 : (size (lists 2 wide) ≡ 513) × Gets 1 nodes deep (lists 2 wide)
