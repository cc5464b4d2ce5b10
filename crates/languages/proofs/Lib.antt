pub mod Depths
pub mod Joined
