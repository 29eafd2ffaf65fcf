pub mod Plain
pub mod Reads
pub mod Prepare
pub mod Made
pub mod Code
pub mod Inside
pub mod inner
