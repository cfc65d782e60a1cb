pub mod Seeking
pub mod Candidates
