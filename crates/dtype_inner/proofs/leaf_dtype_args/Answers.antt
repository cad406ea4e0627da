-- `dtype_inner::leaf_dtype_args` meets its contract. Assumes nothing.
use mathlib.Core.Path.{ap, ◌∙◌}
use Rattle.dtype_inner.specs.Part.{nodes_told}
use Rattle.dtype_inner.proofs.Endings.{finds_leaf}
use Rattle.dtype_inner.proofs.Parts.{args_last, end_shows}
use Rattle.dtype_inner.proofs.leaf_dtype_args.Goals as goal

pub end_of-requires : goal.end_of-requires
end_of-requires c = (args_last finds_leaf _ _ _ _ (c.nodes_in.ensures ∙ ap nodes_told c.leaf_dtype.ensures)).within

pub returns : goal.returns
returns c = end_shows (args_last finds_leaf _ _ _ _ (c.nodes_in.ensures ∙ ap nodes_told c.leaf_dtype.ensures)) c.end_of.ensures
