pub mod Tests
pub mod Placing
pub mod Reading
pub mod Others
pub mod Demands
