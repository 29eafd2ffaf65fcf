pub use Rattle.script_progress.specs.Opened
pub use Rattle.script_progress.specs.Replies
pub use Rattle.script_progress.specs.Session
pub use Rattle.script_progress.specs.SessionVariants
pub use Rattle.script_progress.specs.State
pub use Rattle.script_progress.specs.Texts
pub use Rattle.script_rows.specs.Names
pub mod Answer
