-- What a supertype call comes to.
pub mod Pair
