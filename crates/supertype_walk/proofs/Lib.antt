-- The laws of the walk.
mod Told
mod Going
mod Unions
mod Loops
mod Orders
mod Merged
mod Fed
mod Joined
