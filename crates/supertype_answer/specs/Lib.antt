-- What a call comes to that joins two types.
pub mod Join
