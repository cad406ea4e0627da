-- The laws of inner and leaf types. Those that other crates' proofs cite are `pub`.
pub mod Endings
mod Parts
pub mod Shapes
