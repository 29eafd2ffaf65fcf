pub mod Encoded
pub mod Audit
pub mod Meaning
pub mod inner
