pub mod Bounded
pub mod HoldingLists
pub mod HoldingListsFall
pub mod Holdings
pub mod Kept
