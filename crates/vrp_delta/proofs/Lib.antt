pub mod Changing
pub mod PayloadMembers
pub mod Published
pub mod Serials
pub mod Staged
pub mod Steps
pub mod Walks
