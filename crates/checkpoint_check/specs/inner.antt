pub mod Beside
pub mod Judged
pub mod Made
pub mod Pieces
pub mod Passed
