pub mod Meeting
pub mod Paths
