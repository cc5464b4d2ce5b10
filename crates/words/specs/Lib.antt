pub mod Left
pub mod Fields
pub mod Handed
