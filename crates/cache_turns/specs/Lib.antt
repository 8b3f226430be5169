pub mod Carrying
pub mod Holding
pub mod Patience
pub mod Serving
pub mod Turns
