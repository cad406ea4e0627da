-- The predicates of dtype.rs that look into a type. Assumes nothing: these are definitions.
use Rattle.std.specs.Prelude.{Bool, true, false, not, ◌&&◌, ◌||◌}
use Rattle.flat.specs.Tree.{DataType, leaf, list, array, struct, Fields, empty, field}
use Rattle.dtype.specs.Predicate.{is_unknown}
use Rattle.dtype.specs.Equality.{equal}
use Rattle.dtype.specs.Physical.{to_physical}

-- is_known
unfoldable mutual
  pub is_known : DataType → Bool
  is_known (list t) = is_known t
  is_known (array w t) = is_known t
  is_known (struct fs) = all_known fs
  is_known (leaf k a) = not (is_unknown k)

  pub all_known : Fields → Bool
  all_known empty = true
  all_known (field name t fs) = is_known t && all_known fs

-- is_logical: it differs from its physical form
unfoldable pub is_logical : DataType → Bool
is_logical t = not (equal t (to_physical t))

-- contains_list_recursive
unfoldable mutual
  pub contains_list_recursive : DataType → Bool
  contains_list_recursive (list t) = true
  contains_list_recursive (array w t) = contains_list_recursive t
  contains_list_recursive (struct fs) = any_contains_list fs
  contains_list_recursive (leaf k a) = false

  pub any_contains_list : Fields → Bool
  any_contains_list empty = false
  any_contains_list (field name t fs) = contains_list_recursive t || any_contains_list fs

-- contains_unknown
unfoldable mutual
  pub contains_unknown : DataType → Bool
  contains_unknown (leaf k a) = is_unknown k
  contains_unknown (list t) = contains_unknown t
  contains_unknown (array w t) = contains_unknown t
  contains_unknown (struct fs) = any_contains_unknown fs

  pub any_contains_unknown : Fields → Bool
  any_contains_unknown empty = false
  any_contains_unknown (field name t fs) = contains_unknown t || any_contains_unknown fs
