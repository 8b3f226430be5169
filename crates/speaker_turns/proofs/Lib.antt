pub mod Asking
pub mod Carrying
mod Counting
pub mod Effects
mod Ending
mod Exchanges
pub mod Fronts
pub mod Listening
pub mod Outlasting
pub mod Patient
pub mod Places
mod Stepping
