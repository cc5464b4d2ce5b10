pub mod Calls
pub mod Course
pub mod Standing
pub mod Asking
pub mod Faults
pub mod Laws
