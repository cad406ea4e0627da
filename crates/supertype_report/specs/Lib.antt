-- What joining does to whole numbers: the laws of the two rules, and the report on two columns.
pub mod Rounding
pub mod Kept
pub mod Laws
pub mod Report
