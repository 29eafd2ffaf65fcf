pub mod Cells
pub mod Joining
pub mod Lines
pub mod Uses
