pub mod Held
pub mod Sound
pub mod Tasks
pub mod Leaving
pub mod Dead
