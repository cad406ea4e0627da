-- What a call comes to that joins two types, and what is known of a node.
pub mod Joins
pub mod Nodes
