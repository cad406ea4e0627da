-- The laws behind the ranges and the formats. Those that other crates' proofs cite are `pub`.
pub mod Tests
pub mod Integers
pub mod Ranges
pub mod Formats
mod Rows
mod DynInts
pub mod Digits
