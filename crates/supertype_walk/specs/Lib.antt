-- What the members of the walk come to.
pub mod Comes
