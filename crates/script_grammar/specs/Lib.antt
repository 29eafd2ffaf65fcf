pub mod Silent
pub mod Changes
pub mod Commands
pub mod Print
