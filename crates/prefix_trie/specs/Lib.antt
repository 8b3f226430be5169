pub mod CoverWalks
pub mod Falls
pub mod Nodes
pub mod Places
pub mod Shape
pub mod TrieMap
pub mod TrieWalks
