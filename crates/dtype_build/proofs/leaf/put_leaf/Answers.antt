-- `dtype_build::leaf::put_leaf` meets its contract. Assumes nothing.
use Rattle.dtype_build.proofs.Builds.{leaf_stored}
use Rattle.dtype_build.proofs.leaf.put_leaf.Goals as goal

pub returns : goal.returns
returns g c = leaf_stored c.requires _ _ c.leaf_in-new.ensures
