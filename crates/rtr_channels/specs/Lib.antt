pub mod Channels
pub mod ChannelEvents
pub mod VersionsAgree
pub mod Joins
