pub mod PeerLimits
pub mod Slot
pub mod SessionInputs
pub mod Refreshes
pub mod SentMessages
pub mod Agreement
pub mod Laws
