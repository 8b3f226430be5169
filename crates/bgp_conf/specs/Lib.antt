pub mod RefusalNumbers
pub mod Configuration
pub mod FirstRefusal
pub mod ConfAfter
pub mod PeerPolicies
pub mod Reach
