-- `contains_dtype_recursive` of dtype.rs. Assumes nothing: these are definitions.
use Rattle.std.specs.Prelude.{Bool, false, ◌||◌}
use Rattle.flat.specs.Tree.{DataType, leaf, list, array, struct, Fields, empty, field}
use Rattle.dtype.specs.Equality.{equal}

-- contains_dtype_recursive: the type is u, or one under it is
unfoldable mutual
  pub contains_dtype_recursive : DataType → DataType → Bool
  contains_dtype_recursive (leaf k a) u = equal (leaf k a) u
  contains_dtype_recursive (list t) u = equal (list t) u || contains_dtype_recursive t u
  contains_dtype_recursive (array w t) u = equal (array w t) u || contains_dtype_recursive t u
  contains_dtype_recursive (struct fs) u = equal (struct fs) u || any_contains_dtype fs u

  pub any_contains_dtype : Fields → DataType → Bool
  any_contains_dtype empty u = false
  any_contains_dtype (field name t fs) u = contains_dtype_recursive t u || any_contains_dtype fs u
