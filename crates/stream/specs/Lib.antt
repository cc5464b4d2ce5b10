pub mod Recorded
pub mod Settling
