pub mod Certified
pub mod Checked
pub mod Filled
