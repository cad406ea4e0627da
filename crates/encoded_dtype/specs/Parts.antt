-- The part of a type that its last nodes are. Assumes nothing: these are definitions.
use Rattle.std.specs.Prelude.{◌≡◌, List, ℕ}
use Rattle.std.specs.Prelude.{Option, unwrap_or}
use Rattle.std.specs.Prelude.{option_map}
use Rattle.flat.specs.Tree.{DataType, size, kinds_of, args_of}
use Rattle.flat.specs.Reading.{Ruled}
use Rattle.dtype_inner.specs.Part.{part_kinds, part_args, Last}

-- What is found in t, if something is, has so many nodes: the last ones of t.
pub record LastOf (t : DataType) (o : Option DataType) (nodes : Option ℕ) : Type 0 where
  pub count : nodes ≡ option_map size o
  pub kinds : Last (unwrap_or nodes 0) (kinds_of t) (part_kinds o)
  pub args : Last (unwrap_or nodes 0) (args_of t) (part_args o)

-- of a type of these kinds, so many of its last nodes are the part
abbrev pub TellsPart : (DataType → Option DataType) → List ℕ → Option ℕ → Type 0
TellsPart part kinds nodes = (t : DataType) → Ruled t → kinds ≡ kinds_of t → LastOf t (part t) nodes
