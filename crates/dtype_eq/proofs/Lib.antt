-- The laws of the scans of two flat types. What a scan says of two valid types is for other crates too.
pub mod Scans
mod Steps
mod Alike
mod Answers
