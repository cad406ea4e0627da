-- The parts of a type that a call finds, and the forms that a type is built in anew.
pub mod Parts
pub mod Forms
