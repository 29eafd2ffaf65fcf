pub mod ScanRanges
pub mod Pieces
pub mod Partition
pub mod Refusals
pub mod Batches
pub mod Laws
pub mod Cursor
pub mod Left
