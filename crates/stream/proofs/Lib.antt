pub mod Nests
pub mod Settles
pub mod Places
