pub mod Faults
pub mod Writing
pub mod Printing
pub mod Giving
