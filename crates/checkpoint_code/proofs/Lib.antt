pub mod Heads
pub mod PageReads
