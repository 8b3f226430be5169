pub mod Book
pub mod FirstClient
pub mod Following
pub mod Laws
pub mod Sessions
pub mod StateNames
