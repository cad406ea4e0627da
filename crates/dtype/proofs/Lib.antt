-- The laws behind the predicates of a type. Those that other crates' proofs cite are `pub`.
pub mod Runs
pub mod Trees
pub mod Answers
pub mod Pairs
pub mod Coarser
