pub mod Turns
pub mod Waits
pub mod Lefts
