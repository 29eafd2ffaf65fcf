pub mod Met
pub mod Made
pub mod RowCounts
pub mod OwnPairs
