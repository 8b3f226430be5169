pub mod Filters
pub mod Kept
pub mod Matching
pub mod Passing
pub mod Sets
