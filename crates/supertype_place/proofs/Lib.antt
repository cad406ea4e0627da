-- What the proofs of this crate share, and the laws of types, fields and nodes that others cite.
pub mod Views
pub mod Finds
pub mod Repeats
mod Squash
pub mod Tables
pub mod Writes
