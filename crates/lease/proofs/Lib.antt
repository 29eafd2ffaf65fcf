pub mod Stood
pub mod Uses
pub mod Restored
