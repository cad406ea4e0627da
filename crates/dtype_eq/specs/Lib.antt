-- `contains_dtype_recursive`, and what the scans of two flat types say.
pub mod Contains
pub mod Nodes
