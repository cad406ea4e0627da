-- The merges meet the definitions, their contracts are the step of a run, and the rule holds of every list of them.
-- What other crates' proofs cite is `pub`.
pub mod Arms
mod Contracts
mod Pages
mod Models
mod Rule
mod Worked
mod Limits
