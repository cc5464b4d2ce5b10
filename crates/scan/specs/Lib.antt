pub mod Holding
pub mod First
