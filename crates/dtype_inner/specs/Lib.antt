-- Inner types and shapes, and what the contracts of `dtype_inner` cite.
pub mod Inner
pub mod Nodes
pub mod Part
pub mod Laws
pub mod Shape
pub mod Reply
