pub mod ListedPolicies
pub mod NameTexts
pub mod FirstRule
pub mod TableLaws
mod Tables
