pub mod Decides
pub mod Finding
pub mod First
pub mod Indexes
pub mod Order
pub mod Parts
pub mod Words
