pub mod Made
pub mod Reached
pub mod Deciding
pub mod Keys
pub mod Links
pub mod Writing
pub mod Holding
