pub mod Steps
pub mod Walked
