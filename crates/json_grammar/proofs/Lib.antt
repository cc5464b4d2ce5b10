pub mod Sorts
pub mod Escapes
