-- The upcast by kinds, and its laws.
pub mod Upcasts
pub mod Roots
pub mod Laws
