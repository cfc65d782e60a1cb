pub mod CaseLemmas
pub mod MatcherLemmas
pub mod ViewLemmas
pub mod ByteLemmas
pub mod SequenceLemmas
pub mod StayLemmas
