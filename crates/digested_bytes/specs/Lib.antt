pub mod Whole
pub mod Record
