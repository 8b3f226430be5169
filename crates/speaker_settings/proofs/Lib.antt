pub mod TakenSlots
pub mod Told
pub mod Timers
