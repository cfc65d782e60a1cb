pub mod FoundLemmas
pub mod RunLemmas
