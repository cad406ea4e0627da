-- What a flat type means, and what the contracts of `flat` cite.
pub mod Kind
pub mod Refusal
pub mod Reply
pub mod Argument
pub mod Tree
pub mod Reader
pub mod Reading
pub mod Both
pub mod Refusals
pub mod Limits
pub mod Output
pub mod Scan
pub mod Span
pub mod Walk
