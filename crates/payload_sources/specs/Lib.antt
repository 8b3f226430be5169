pub mod OpenedSources
pub mod PayloadSources
pub mod SourceExits
