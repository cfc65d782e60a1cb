pub mod FirstByteLemmas
pub mod IntervalLemmas
pub mod SetLemmas
pub mod ClassLemmas
pub mod HalvingLemmas
pub mod AsciiLemmas
pub mod ListLemmas
