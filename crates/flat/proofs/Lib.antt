-- The laws of flat types. Those that other crates' proofs cite are `pub`.
pub mod Truths
pub mod Sizes
pub mod ReadBack
pub mod Positions
pub mod Walks
pub mod Meaning
mod Numbers
pub mod Refusals
pub mod Roots
pub mod Pairs
pub mod Onward
pub mod Outputs
pub mod Rules
pub mod Plain
mod Scans
mod States
mod Scanned
mod Complete
mod Scanning
pub mod Spans
mod Checks
mod LimitCases
mod DepthLimit
mod NodeLimit
