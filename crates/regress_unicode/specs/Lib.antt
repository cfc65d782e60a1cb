pub mod Case
pub mod Casefold
pub mod Keys
pub mod Names
pub mod Sequences
pub mod Unicode
