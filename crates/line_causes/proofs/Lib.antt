pub mod AsciiLines
