pub mod CandidateLists
