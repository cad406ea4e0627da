-- The code for two nodes meets the definition, and what an entry point's checks come to.
mod Numbers
mod ByPlan
mod Orders
pub mod Checks
