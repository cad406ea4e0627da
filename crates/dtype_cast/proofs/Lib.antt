-- The laws of `can_cast_to`. Those that other crates' proofs cite are `pub`.
mod Arms
mod Pairs
mod Steps
pub mod Entry
pub mod Structs
pub mod Scans
