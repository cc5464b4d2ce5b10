pub mod Writing
pub mod Table
