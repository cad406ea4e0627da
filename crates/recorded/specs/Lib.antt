-- Recorded answers of the crate's own text to nested joins.
pub mod Recorded
pub mod Rows
