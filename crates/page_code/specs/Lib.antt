pub mod Code
pub mod inner
