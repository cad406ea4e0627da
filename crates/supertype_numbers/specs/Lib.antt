-- Which numbers a column of each type could hold: the ranges of the integer types, the dyn integer helpers, the float
-- formats, and the Decimals.
pub mod Integer
pub mod DynInt
pub mod Range
pub mod Table
pub mod Format
pub mod Decimal
