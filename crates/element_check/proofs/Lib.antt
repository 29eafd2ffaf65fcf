pub mod Finds
pub mod Own
