pub mod Utf8Reads
pub mod Utf16Starts
pub mod Utf16Whole
mod InputRows
