-- The laws of the supertype of any two types.
pub mod Found
pub mod Smaller
pub mod Chosen
pub mod Recursive
pub mod Leaves
pub mod Union
pub mod Names
pub mod Keeps
pub mod Fits
pub mod Valid
pub mod Steps
pub mod Beside
pub mod Ranges
pub mod Plain
pub mod Hold
pub mod Limits
