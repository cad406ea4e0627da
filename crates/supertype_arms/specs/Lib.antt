-- `get_supertype_with_options` of supertype.rs as a definition, what the rows by kinds come to, and its laws.
pub mod Node
pub mod Supertype
pub mod Rule
pub mod Laws
