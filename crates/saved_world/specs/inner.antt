pub mod Puts
pub mod Adds
pub mod Pushes
pub mod PagesRead
