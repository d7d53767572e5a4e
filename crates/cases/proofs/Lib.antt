pub mod Hold
pub mod Judged
pub mod Computed
pub mod Printed
