pub mod Answering
pub mod Behind
pub mod Giving
pub mod Splitting
