pub mod FilterWords
pub mod FirstWords
pub mod Numbers
pub mod PrefixWords
pub mod ReadLines
pub mod RuleLines
pub mod RuleParts
pub mod SingleWords
