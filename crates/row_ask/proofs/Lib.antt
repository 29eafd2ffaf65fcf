pub mod Frame
pub mod Page
pub mod Begins
pub mod Gathers
pub mod Forward
pub mod Paths
mod AllRead
