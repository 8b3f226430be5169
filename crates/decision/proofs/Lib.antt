pub mod Best
pub mod One
pub mod Laws
pub mod SameMembers
pub mod PlaceLists
pub mod BestPlaces
pub mod NewPlaces
