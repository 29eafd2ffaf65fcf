pub mod Explained
pub mod Shown
