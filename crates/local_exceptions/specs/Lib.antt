pub mod ExceptionFaults
pub mod ExceptionNumbers
pub mod ExceptionSets
pub mod FilterLengths
pub mod FilterOrder
pub mod Filters
