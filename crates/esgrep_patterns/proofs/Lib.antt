pub mod OrderLemmas
pub mod FoundLemmas
pub mod HitLemmas
pub mod SeveralLemmas
pub mod BoundLemmas
pub mod CandidateLemmas
