-- The code's limits have document 01's worked cases at the limit of the nodes. Assumes nothing.
use lib.Dec.{lit≤, lit<}
use Rattle.flat.specs.Tree.{size, depth}
use Rattle.flat.specs.Limits.{lists, fields_of, NodeLimit}
use Rattle.flat.specs.declared.TheConstants.Flat.{MAX_NODES, MAX_DEPTH}
use Rattle.flat.proofs.LimitCases.{node_limit}

pub at_nodes : NodeLimit MAX_NODES MAX_DEPTH
unfolding size depth lists fields_of
at_nodes = node_limit (lit≤ tt) (lit< tt) (lit≤ tt)
