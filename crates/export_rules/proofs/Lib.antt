pub mod Accepted
pub mod Travelling
pub mod Rewritten
