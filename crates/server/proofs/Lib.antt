pub mod Ends
pub mod Says
pub mod HandlePorts
pub mod Serves
pub mod Works
