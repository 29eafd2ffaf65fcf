pub mod Jobs
pub mod Attempts
pub mod Workers
