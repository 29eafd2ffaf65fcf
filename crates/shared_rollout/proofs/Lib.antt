pub mod Attempts
pub mod Acts
