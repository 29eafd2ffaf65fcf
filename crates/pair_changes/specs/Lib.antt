pub mod Changes
pub mod inner
