pub mod PayloadTimes
pub mod ToldPayloads
