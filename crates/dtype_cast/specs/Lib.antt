-- `can_cast_to`, the answers of it, of its walk and of its scan, and the laws of Structs.
pub mod Cast
pub mod Verdict
pub mod Walk
pub mod Scan
pub mod Laws
