pub mod Made
pub mod Judged
