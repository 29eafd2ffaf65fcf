pub mod KeyCodes
pub mod Records
pub mod RecordReads
pub mod Noted
pub mod Suits
pub mod Runs
pub mod Whole
mod Storable
mod TxnFits
