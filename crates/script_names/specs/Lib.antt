pub mod Kinds
pub mod Names
pub mod Moves
pub mod Changes
