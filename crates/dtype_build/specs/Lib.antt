-- `materialize_unknown` and `to_physical`: what the calls come to that build a type anew, and what their walk comes to.
pub mod Materialize
pub mod Build
pub mod Leaf
