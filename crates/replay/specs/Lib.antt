pub mod Replay
pub mod Code
pub mod Kept
pub mod Laws
pub mod Worked
pub mod Headline
pub mod inner
