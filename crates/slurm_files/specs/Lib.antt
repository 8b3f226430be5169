pub mod GivenMembers
pub mod MemberNames
pub mod SlurmDocument
pub mod SlurmEntries
pub mod SlurmParts
