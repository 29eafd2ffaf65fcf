pub mod Again
pub mod Pinned
pub mod ReadRows
pub mod Loads
pub mod Reach
