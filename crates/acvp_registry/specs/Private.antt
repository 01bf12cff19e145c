pub mod Code
pub mod Invariant
