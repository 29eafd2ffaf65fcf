pub mod Later
pub mod Calls
