pub mod LoadSize
pub mod SoakSize
pub mod Choice
pub mod Status
