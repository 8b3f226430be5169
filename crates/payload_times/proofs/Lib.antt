pub mod HeldRows
pub mod Times
pub mod Arrivals
pub mod Told
