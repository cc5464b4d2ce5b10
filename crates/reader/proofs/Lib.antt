pub mod Endings
pub mod Sound
pub mod Placing
pub mod Leaves
