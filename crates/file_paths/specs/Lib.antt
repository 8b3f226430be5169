pub mod OpenedFiles
