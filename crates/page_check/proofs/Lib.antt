pub mod Counts
pub mod Ranges
pub mod Same
pub mod Pages
pub mod Enough
