pub mod Puts
pub mod Known
pub mod Filled
pub mod Adds
pub mod Ends
pub mod Cuts
pub mod Joins
pub mod Loads
pub mod Backs
mod Digests
