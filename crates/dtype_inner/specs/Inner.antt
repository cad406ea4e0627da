-- Inner and leaf types, and the shape of an Array: dtype.rs. Assumes nothing: these are definitions.
use Rattle.std.specs.Prelude.{List, [], ◌∷◌, ℕ}
use Rattle.std.specs.Prelude.{Option, None, Some}
use Rattle.flat.specs.Tree.{DataType, leaf, list, array, struct}

-- inner_dtype
unfoldable pub inner_dtype : DataType → Option DataType
inner_dtype (list t) = Some t
inner_dtype (array w t) = Some t
inner_dtype (leaf k a) = None
inner_dtype (struct fs) = None

-- leaf_dtype: the inner type as long as there is one
unfoldable pub leaf_dtype : DataType → DataType
leaf_dtype (list t) = leaf_dtype t
leaf_dtype (array w t) = leaf_dtype t
leaf_dtype (leaf k a) = leaf k a
leaf_dtype (struct fs) = struct fs

-- past the Arrays at the front
unfoldable pub past_arrays : DataType → DataType
past_arrays (array w t) = past_arrays t
past_arrays (list t) = list t
past_arrays (leaf k a) = leaf k a
past_arrays (struct fs) = struct fs

-- array_leaf_dtype
unfoldable pub array_leaf_dtype : DataType → Option DataType
array_leaf_dtype (array w t) = Some (past_arrays t)
array_leaf_dtype (list t) = None
array_leaf_dtype (leaf k a) = None
array_leaf_dtype (struct fs) = None

-- get_shape_impl: the widths down consecutive Arrays
unfoldable pub widths_of : DataType → List ℕ
widths_of (array w t) = w ∷ widths_of t
widths_of (list t) = []
widths_of (leaf k a) = []
widths_of (struct fs) = []

-- get_shape
unfoldable pub get_shape : DataType → Option (List ℕ)
get_shape (array w t) = Some (w ∷ widths_of t)
get_shape (list t) = None
get_shape (leaf k a) = None
get_shape (struct fs) = None
