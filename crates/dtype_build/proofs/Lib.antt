-- The laws of the types that are built anew. Those that other crates' proofs cite are `pub`.
pub mod Leaves
pub mod Forms
mod Writes
mod Builds
pub mod Answers
