pub mod ShareLemmas
pub mod GroupLemmas
