pub mod Steps
pub mod Lists
pub mod Faulting
pub mod Calls
pub mod Given
pub mod WellPlaced
