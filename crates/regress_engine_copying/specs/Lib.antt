pub mod StateOf
pub mod Held
pub mod Tasks
pub mod Sound
pub mod Stepping
