-- What the contracts of the C entry points cite.
pub mod Reply
