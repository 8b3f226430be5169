pub mod MessageLimits
pub mod MessageSpelling
pub mod MessageFaults
pub mod Notifications
pub mod MessageStream
pub mod OpenParts
pub mod RouteRefresh
pub mod UpdateMeaning
