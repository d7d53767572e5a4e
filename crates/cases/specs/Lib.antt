pub mod Readings
pub mod Cases
pub mod Settled
pub mod Requested
pub mod Meant
pub mod Examples
