-- The rows meet the definition, and what the definition comes to.
pub mod Areas
pub mod Answers
pub mod Bare
pub mod Decimals
pub mod Recursive
