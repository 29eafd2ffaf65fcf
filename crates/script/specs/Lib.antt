pub mod Script
pub mod Status
pub mod Watched
pub mod OneLine
