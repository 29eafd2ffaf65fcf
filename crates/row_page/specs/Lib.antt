pub mod Page
pub mod Refused
pub mod inner
