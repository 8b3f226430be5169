pub mod Appendings
pub mod AttributeSpellings
pub mod EntryLists
mod Faults
mod FirstFaults
mod Octets
mod PathLemmas
mod PathSpellings
mod Paths
pub mod PrependedPaths
pub mod SoundValues
mod SplitSpellings
mod Splits
mod Spreading
pub mod Travelling
mod UnknownLists
mod UnknownReading
pub mod WrittenSpellings
