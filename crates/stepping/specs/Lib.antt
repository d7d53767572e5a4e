pub mod Ends
pub mod Sets
pub mod Walks
