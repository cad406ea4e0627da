-- `get_numeric_upcast_supertype_lossless` of supertype.rs, and what is proved of it from the ranges.
pub mod Lossless
pub mod Laws
