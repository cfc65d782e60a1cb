pub mod Cursors
pub mod Escapes
pub mod Groups
pub mod Ranges
pub mod Readings
pub mod Trees
pub mod Words
