pub mod TravellingUpdates
pub mod KeptAttributes
pub mod AnsweredRefreshes
