pub mod KeptPayloads
pub mod StatesUnder
pub mod Stretches
pub mod StretchWalks
pub mod Touched
pub mod Validity
pub mod ValidityNames
