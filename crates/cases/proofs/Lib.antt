-- The worked cases hold, at the code's own limits.
mod Nested
pub mod Claim
