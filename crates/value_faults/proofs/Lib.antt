pub mod Tests
pub mod Operations
pub mod Conditions
