pub mod Done
pub mod Runs
pub mod Places
pub mod Seats
pub mod Handed
