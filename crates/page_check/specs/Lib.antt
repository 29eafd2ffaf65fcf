pub mod Page
pub mod Needs
pub mod Whole
pub mod inner
