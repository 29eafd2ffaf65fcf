pub mod Keys
pub mod Records
pub mod Read
pub mod Restored
pub mod Drafts
pub mod Runs
