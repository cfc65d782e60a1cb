pub mod Walked
pub mod Searched
