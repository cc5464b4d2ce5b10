pub mod Readings
pub mod Limits
pub mod Reads
pub mod Both
