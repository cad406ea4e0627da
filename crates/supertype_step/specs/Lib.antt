-- What the roots of two types decide of their supertype.
pub mod Decided
pub mod Sides
