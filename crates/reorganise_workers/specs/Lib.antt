pub mod Ends
pub mod ReorganiseAll
pub mod inner
