-- The code's limits have document 01's worked cases at the limit of the depth. Assumes nothing.
use lib.Dec.{lit≤, lit<}
use Rattle.flat.specs.Tree.{size, depth}
use Rattle.flat.specs.Limits.{lists, DepthLimit}
use Rattle.flat.specs.declared.TheConstants.Flat.{MAX_NODES, MAX_DEPTH}
use Rattle.flat.proofs.LimitCases.{depth_limit}

pub at_depth : DepthLimit MAX_NODES MAX_DEPTH
unfolding size depth lists
at_depth = depth_limit (lit≤ tt) (lit≤ tt) (lit< tt)
