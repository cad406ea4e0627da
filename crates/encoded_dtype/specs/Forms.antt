-- The calls that build a type anew, by the form. Assumes nothing: these are definitions.
use Rattle.std.specs.Prelude.{Bool, cond, not, ◌&&◌, ℕ}
use Rattle.flat.specs.Tree.{kinds_of}
use Rattle.flat.specs.Reading.{Reading, refused, type}
use Rattle.flat.specs.declared.error.Error.TheVariants.{Unknown}
use Rattle.dtype_build.specs.Leaf.{leaf_with, map_leaves, has_any}

-- The type in the form that is told by the kind that each leaf has in it; 7 where any stands in the type and is not
-- allowed. `to_physical` allows it, and its rule keeps it.
unfoldable pub form_of : (ℕ → ℕ → ℕ) → Bool → Reading → Reading
form_of kind_in allow (refused e) = refused e
form_of kind_in allow (type t) =
    cond (has_any (kinds_of t) && not allow) (refused Unknown) (type (map_leaves (leaf_with kind_in) t))
