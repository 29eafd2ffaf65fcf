pub mod Apart
pub mod Effects
pub mod IndexLaws
pub mod ColumnLaws
pub mod RequiredLaws
pub mod ExistsLaws
pub mod Clears
