pub mod CannotBeginLemmas
pub mod FarLemmas
pub mod LiteralLemmas
pub mod MemberLemmas
pub mod ReadLemmas
pub mod ReferenceLemmas
pub mod TakenLemmas
