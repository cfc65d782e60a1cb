pub mod ErrorTexts
pub mod FlagWords
pub mod Limits
pub mod Quantifiers
pub mod Refusals
