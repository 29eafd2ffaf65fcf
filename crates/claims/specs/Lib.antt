pub mod Draws
pub mod Seats
pub mod Counts
pub mod inner
