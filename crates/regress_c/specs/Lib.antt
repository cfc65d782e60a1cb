pub mod Checked
pub mod Compiled
pub mod Copied
