-- The laws hold, and the report is settled.
mod Rounding
mod Pairs
mod Decimals
mod Laws
mod Keeping
mod Settled
pub mod Roots
