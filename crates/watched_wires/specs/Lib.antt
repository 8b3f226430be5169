pub mod Limits
pub mod NoticeText
pub mod ShutdownText
