pub mod Runs
pub mod There
pub mod Stored
pub mod Whole
pub mod Rows
