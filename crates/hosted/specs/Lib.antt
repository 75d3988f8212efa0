pub mod HostCalls
pub mod HostDemands
pub mod HostItems
pub mod HostReadBack
pub mod HostValues
