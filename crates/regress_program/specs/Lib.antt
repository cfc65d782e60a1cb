pub mod Answering
pub mod Endings
pub mod Errors
pub mod Running
pub mod Streams
pub mod Words
