pub mod BookContents
pub mod KeptPlaces
pub mod Selection
pub mod Steps
pub mod WithoutMed
