pub mod Quotes
pub mod Skips
pub mod Cuts
