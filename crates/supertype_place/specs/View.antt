-- A type and a run of fields at the front of two arrays, each leaf a type of its own: as tests, which a struct's fact
-- can be. Assumes nothing: these are definitions.
use Rattle.std.specs.Prelude.{Bool, true, false, ◌&&◌, List, ℕ, ◌-◌, leb, eqb, length, take, drop}
use Rattle.std.specs.Prelude.{Option, None, Some}
use Rattle.flat.specs.Kind.{Field}
use Rattle.flat.specs.Argument.{argument_fits, leaf_fits}
use Rattle.flat.specs.Tree.{DataType, leaf, list, array, struct, Fields, empty, field}
use Rattle.flat.specs.Reader.{node_at, fields_at}

-- a slice after its first j elements, as the code hands it on
abbrev pub from : ℕ → List ℕ → List ℕ
from j l = take (length l - j) (drop j l)

-- as many nodes as the two largest types have together: the arrays of every step on the way have no more
abbrev pub most_nodes : ℕ
most_nodes = 1024

-- each leaf is a type of its own and each name a name
unfoldable mutual
  pub leaves_fit : DataType → Bool
  leaves_fit (leaf k a) = leaf_fits k a
  leaves_fit (list t) = leaves_fit t
  leaves_fit (array w t) = leaves_fit t
  leaves_fit (struct fs) = fields_fit fs

  pub fields_fit : Fields → Bool
  fields_fit empty = true
  fields_fit (field name t fs) = argument_fits Field name && (leaves_fit t && fields_fit fs)

-- what holds of what was read, if anything was
abbrev pub read_fits : {A : Type 0} → (A → Bool) → Option A → Bool
read_fits f None = false
read_fits f (Some x) = f x

-- two arrays of one length, which is no larger than any step needs
abbrev pub paired : (ks xs : List ℕ) → Bool
paired ks xs = eqb (length ks) (length xs) && leb (length ks) most_nodes

-- a type stands at the front
unfoldable pub type_stands : (ks xs : List ℕ) → Bool
type_stands ks xs = paired ks xs && read_fits leaves_fit (node_at ks xs)

-- m fields stand at the front
unfoldable pub run_stands : (m : ℕ) (ks xs : List ℕ) → Bool
run_stands m ks xs = paired ks xs && read_fits fields_fit (fields_at m ks xs)
