pub mod Watched
pub mod Limits
pub mod Searched
pub mod Listed
pub mod Found
