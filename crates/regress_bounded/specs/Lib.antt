pub mod Stopping
pub mod Standing
pub mod Coming
pub mod Together
pub mod Splitting
