-- The type of each channel: what a merge comes to, the model, the rule over every list of merges, a list worked by
-- hand, and the limit.
pub mod Merge
pub mod Model
pub mod Rule
pub mod Worked
pub mod Limits
