pub mod Searches
pub mod Counting
pub mod ErrorTexts
pub mod Turned
