pub mod Places
pub mod Accepts
pub mod Judging
pub mod Story
pub mod Fit
