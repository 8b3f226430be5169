pub mod Causes
pub mod Keys
pub mod KnownKeys
pub mod SettingsExits
