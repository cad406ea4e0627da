-- `dtype_inner::leaf_dtype_kinds` meets its contract. Assumes nothing.
use mathlib.Core.Path.{ap, ◌∙◌}
use Rattle.dtype_inner.specs.Part.{nodes_told}
use Rattle.dtype_inner.proofs.Endings.{finds_leaf}
use Rattle.dtype_inner.proofs.Parts.{kinds_last, end_shows}
use Rattle.dtype_inner.proofs.leaf_dtype_kinds.Goals as goal

pub end_of-requires : goal.end_of-requires
end_of-requires c = (kinds_last finds_leaf _ _ _ _ (c.nodes_in.ensures ∙ ap nodes_told c.leaf_dtype.ensures)).within

pub returns : goal.returns
returns c = end_shows (kinds_last finds_leaf _ _ _ _ (c.nodes_in.ensures ∙ ap nodes_told c.leaf_dtype.ensures)) c.end_of.ensures
