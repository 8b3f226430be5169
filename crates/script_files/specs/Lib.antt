pub mod Cases
pub mod Comparison
pub mod Counts
pub mod Cuts
pub mod Judgement
pub mod Lines
pub mod Listing
pub mod Names
