pub use Rattle.script_views.specs.Names
pub use Rattle.script_views.specs.Unknown
