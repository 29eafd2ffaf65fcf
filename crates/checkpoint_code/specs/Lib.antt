pub mod Head
pub mod Restores
pub mod Page
pub mod Pages
