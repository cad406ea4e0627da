-- How many nodes an inner or leaf type has, told from the kinds of the whole alone.
-- Assumes nothing: these are definitions.
use Rattle.std.specs.Prelude.{cond, List, [], ◌∷◌, ℕ, ◌-◌, eqb, length, Option, None, Some}
use Rattle.std.specs.List.{prefix_len}
use Rattle.flat.specs.Kind
use Rattle.flat.specs.Kind.{between}

-- inner_dtype: all but the root, where the root is a List or an Array
unfoldable pub inner_nodes : List ℕ → Option ℕ
inner_nodes [] = None
inner_nodes (k ∷ ks) = cond (between Kind.List Kind.Array k) (Some (length ks)) None

-- leaf_dtype: all past the Lists and Arrays at the front
unfoldable pub leaf_nodes : List ℕ → ℕ
leaf_nodes ks = length ks - prefix_len (between Kind.List Kind.Array) ks

-- array_leaf_dtype: all past the Arrays at the front, where there is one
unfoldable pub array_leaf_nodes : List ℕ → Option ℕ
array_leaf_nodes ks =
    cond (eqb (prefix_len (between Kind.Array Kind.Array) ks) 0) None
    (Some (length ks - prefix_len (between Kind.Array Kind.Array) ks))
