pub mod Answer
pub mod Refused
pub mod Path
pub mod Kinds
pub mod inner
