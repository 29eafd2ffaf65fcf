pub mod AcceptTables
pub mod Encoding
pub mod RestoreTests
