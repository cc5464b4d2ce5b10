pub mod Rules
pub mod Machine
pub mod Language
pub mod Lawful
pub mod Escapes
