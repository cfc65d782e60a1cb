pub mod Exits
pub mod Known
pub mod Repeating
