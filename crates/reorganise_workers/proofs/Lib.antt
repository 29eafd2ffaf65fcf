pub mod Workers
pub mod Ends
pub mod Reorganises
