pub use Rattle.checkpoint.specs.Checkpoint
pub use Rattle.checkpoint.specs.Sound
pub mod Given
pub mod Refusals
pub mod Accepted
pub mod inner
