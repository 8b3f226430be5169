pub mod Stepping
pub mod ToldMoments
pub mod Walks
