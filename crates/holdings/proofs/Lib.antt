pub mod FewHoldings
pub mod HoldingLists
pub mod UnlikeHoldings
