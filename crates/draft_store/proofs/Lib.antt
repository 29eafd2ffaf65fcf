pub mod Least
pub mod OneMap
pub mod Controlled
pub mod Sided
pub mod Runs
pub mod Whole
