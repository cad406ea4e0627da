-- Types and fields where they stand in two arrays, and the nodes that a join writes.
pub mod View
pub mod Viewed
pub mod Names
pub mod Written
