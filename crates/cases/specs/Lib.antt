-- The worked cases.
pub mod Question
pub mod Cases
