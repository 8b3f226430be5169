pub mod Picked
pub mod Placed
pub mod Remembered
