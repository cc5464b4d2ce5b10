pub mod Language
pub mod Classes
pub mod Rules
pub mod Laws
