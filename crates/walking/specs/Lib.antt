pub mod TableSteps
pub mod Steps
