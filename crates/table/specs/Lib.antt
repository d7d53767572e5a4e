pub mod Within
pub mod Rows
