pub mod PeerSlots
pub mod ToldSettings
