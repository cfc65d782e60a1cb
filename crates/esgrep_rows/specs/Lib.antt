pub mod Lines
pub mod Found
pub mod Rows
pub mod Views
pub mod Values
