pub mod AsciiTexts
pub mod CommandFaults
pub mod FileLines
pub mod ObeyedCommands
pub mod OutsideFaults
