pub mod Export
pub mod Serving
pub mod Moves
pub mod Shown
pub mod Chosen
pub mod CacheMoves
pub mod Ready
