pub mod Classes
pub mod Nesting
