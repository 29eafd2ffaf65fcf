pub mod FlatPairs
pub mod Prefix
pub mod Plan
pub mod Counts
