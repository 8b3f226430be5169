pub mod PolicyMeaning
pub mod FirstRule
pub mod PolicyNames
pub mod PolicyTable
pub mod PolicyRefusals
