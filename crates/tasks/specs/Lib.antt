pub mod Outcomes
pub mod Counts
