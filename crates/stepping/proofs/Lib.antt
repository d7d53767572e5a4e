pub mod Offsets
pub mod Records
pub mod Runs
pub mod Sets
pub mod Walks
pub mod Calls
pub mod Apart
pub mod Accepted
