pub mod Stack
pub mod Texts
pub mod Breaks
