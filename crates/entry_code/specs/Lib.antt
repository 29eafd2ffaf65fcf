pub mod Code
pub mod Known
pub mod Read
pub mod Worked
pub mod inner
pub mod Parts
pub mod Records
