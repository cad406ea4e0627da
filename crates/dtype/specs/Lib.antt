-- What every rule of dtype.rs rests on: the source's patterns, the predicates, equality, physical types and units of
-- time, as definitions on trees in the source's order of arms.
pub mod TimeUnit
pub mod TimeUnits
pub mod Match
pub mod Predicate
pub mod Equality
pub mod Physical
pub mod Recursive
pub mod Scan
pub mod Predicates
pub mod Answer
