pub mod Passes
pub mod Frees
