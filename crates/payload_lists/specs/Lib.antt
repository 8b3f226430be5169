pub mod Fronts
pub mod PayloadLists
