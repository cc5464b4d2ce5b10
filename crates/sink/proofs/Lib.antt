pub mod Kept
pub mod Runs
mod Slips
