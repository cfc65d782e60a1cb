pub mod RisingLemmas
pub mod ReplacingLemmas
pub mod SplittingLemmas
