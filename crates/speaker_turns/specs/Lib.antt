pub mod Carrying
pub mod Ends
pub mod Losses
pub mod Obeying
pub mod Serving
pub mod Sessions
pub mod Turns
pub mod Outlasting
