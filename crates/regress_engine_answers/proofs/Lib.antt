pub mod RowLemmas
pub mod FillLemmas
pub mod EndKept
pub mod EndLemmas
pub mod FillingWays
