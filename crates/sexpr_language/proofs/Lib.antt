pub mod Cases
pub mod Bytes
pub mod Spelling
pub mod Trees
pub mod Reading
pub mod Words
pub mod Places
pub mod Lawfulness
