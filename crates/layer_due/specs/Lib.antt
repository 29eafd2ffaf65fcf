pub mod Records
pub mod Due
pub mod Applies
pub mod Lowers
pub mod GoesOn
pub mod Left
pub mod Course
