pub mod Items
pub mod Order
pub mod Shares
pub mod KeyRanges
pub mod Bounds
pub mod SameKeys
pub mod Expectations
pub mod Rowwise
pub mod Encoding
pub mod Columns
pub mod Fills
pub mod Clears
pub mod Cursors
pub mod EmptyValues
pub mod Emptying
pub mod Left
mod ReadTo
