pub mod GroupLemmas
pub mod NameLemmas
pub mod RangeLemmas
pub mod NamedLemmas
pub mod TakenLemmas
