pub mod Records
pub mod Spans
pub mod LastPart
pub mod Found
pub mod Fits
