pub mod Ahead
pub mod Differ
pub mod Walked
