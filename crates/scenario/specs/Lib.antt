pub mod CommandFaults
pub mod FileLines
pub mod LineNumbers
pub mod ObeyedCommands
pub mod ScriptLines
