pub mod Trying
pub mod Remembering
pub mod Counting
pub mod Passing
