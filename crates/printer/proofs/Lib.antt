pub mod Pieces
pub mod Course
pub mod Turns
pub mod Writes
pub mod Advances
pub mod Holding
pub mod Ending
