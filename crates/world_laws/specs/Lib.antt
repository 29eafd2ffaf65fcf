pub mod Recent
pub mod Found
pub mod Clean
pub mod Snapshots
pub mod Shared
