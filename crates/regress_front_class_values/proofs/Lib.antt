pub mod ClassLemmas
pub mod ClassValueLemmas
