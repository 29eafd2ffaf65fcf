pub use Rattle.script_views.specs.Check
pub use Rattle.script_views.specs.Explain
pub use Rattle.script_views.specs.Opened
pub use Rattle.script_views.specs.Replies
pub use Rattle.script_views.specs.Session
pub use Rattle.script_views.specs.SessionVariants
pub use Rattle.script_views.specs.State
pub use Rattle.script_views.specs.Texts
