pub mod Appending
pub mod Digits
pub mod Lengths
