pub mod Texts
pub mod Faults
pub mod Verdicts
pub mod Builds
pub mod Answers
pub mod Printed
