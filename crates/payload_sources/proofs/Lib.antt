pub mod OpenedFiles
pub mod UnderFile
