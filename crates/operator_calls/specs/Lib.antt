pub mod Advances
pub mod Changes
pub mod Dues
pub mod Pieces
pub mod Plans
pub mod Standing
