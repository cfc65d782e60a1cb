pub mod Sharing
pub mod Grouping
