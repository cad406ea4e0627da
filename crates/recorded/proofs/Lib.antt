-- The definition gives every recorded answer.
pub mod Agree
