pub mod LineLemmas
pub mod CuttingLemmas
pub mod PassingLemmas
pub mod RewritingLemmas
