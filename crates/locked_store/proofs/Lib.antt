pub mod Through
pub mod Marks
pub mod WholeLog
pub mod Logging
pub mod Growing
pub mod Fronts
pub mod Fresh
