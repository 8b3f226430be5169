pub mod Reasons
pub mod StepWords
