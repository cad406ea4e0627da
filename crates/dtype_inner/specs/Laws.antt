-- Where the part stands that an answer speaks of. Assumes nothing: these are definitions.
use Rattle.std.specs.Prelude.{List, ℕ}
use Rattle.std.specs.Prelude.{Option, Some}
use Rattle.flat.specs.Tree.{DataType}
use Rattle.flat.specs.Reading.{reading}
use Rattle.dtype_inner.specs.Inner.{inner_dtype, leaf_dtype, array_leaf_dtype}
use Rattle.dtype_inner.specs.Part.{found, inner_of, nodes_told, part_kinds, part_args, Last}

-- At the end of the caller's own two arrays: as many of the last kinds and of the last arguments as the answer's value
-- says are those of the type found, and none where there is none.
pub record AtEnd (find : DataType → Option DataType) : Type 0 where
  pub kinds : (nodes deep : ℕ) (ks xs : List ℕ)
      → let r = reading nodes deep ks xs in Last (nodes_told (inner_of find r)) ks (part_kinds (found find r))
  pub args : (nodes deep : ℕ) (ks xs : List ℕ)
      → let r = reading nodes deep ks xs in Last (nodes_told (inner_of find r)) xs (part_args (found find r))

pub record PartLaws : Type 0 where
  pub inner : AtEnd inner_dtype
  pub leaf : AtEnd (λ t. Some (leaf_dtype t))
  pub array_leaf : AtEnd array_leaf_dtype
