pub mod NeighborBests
pub mod KeptAlone
pub mod Places
pub mod PlaceStates
