-- What the roots of two types decide of their supertype: proofs.
mod Roots
mod Nest
mod Leaf
mod Sides
