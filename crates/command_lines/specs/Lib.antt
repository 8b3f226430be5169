pub mod CommandWords
pub mod Keywords
pub mod RuleWords
pub mod Words
