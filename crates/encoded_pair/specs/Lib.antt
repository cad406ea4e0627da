-- What is asked of two types.
pub mod Asked
