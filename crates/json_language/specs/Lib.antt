pub mod Classes
pub mod Words
pub mod Language
pub mod Rules
pub mod Laws
