pub mod Passings
pub mod Lays
pub mod Tables
pub mod Steps
pub mod Drains
pub mod Wholes
pub mod Cuts
