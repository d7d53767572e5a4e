pub mod Certified
pub mod Checking
