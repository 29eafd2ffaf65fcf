pub use Rattle.script_session.specs.Replies
pub use Rattle.script_session.specs.Session
pub use Rattle.script_session.specs.State
pub use Rattle.script_session.specs.Texts
pub use Rattle.script_session.specs.declared.session.Opened
pub use Rattle.script_session.specs.declared.session.Session as SessionVariants
pub mod Names
pub mod Explain
pub mod Unknown
pub mod Check
