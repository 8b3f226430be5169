pub mod Lending
pub mod Picked
pub mod Placed
pub mod RecentPlaces
pub mod Tables
