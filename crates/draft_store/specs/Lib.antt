pub mod Apply
pub mod OneMap
pub mod inner
