pub mod Comes
pub mod Settled
