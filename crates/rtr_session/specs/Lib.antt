pub mod SessionLimits
pub mod SessionState
pub mod Sending
pub mod SessionHistory
pub mod Agreement
pub mod Loads
pub mod PayloadsInForce
pub mod Laws
