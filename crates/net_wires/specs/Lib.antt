pub mod Opening
pub mod Readiness
