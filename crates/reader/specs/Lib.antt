pub mod Pieces
pub mod State
pub mod Fields
pub mod Goes
pub mod Endings
