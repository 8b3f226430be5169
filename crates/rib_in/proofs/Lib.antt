pub mod Behind
pub mod Ordered
pub mod RouteLists
pub mod SlotWalks
pub mod Walks
