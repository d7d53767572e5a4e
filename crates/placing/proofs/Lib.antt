pub mod Starts
pub mod Steps
pub mod Lists
pub mod Calls
pub mod Given
