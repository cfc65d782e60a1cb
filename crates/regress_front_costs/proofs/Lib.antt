pub mod SumLemmas
pub mod LeftLemmas
pub mod CostSteps
pub mod StringCosts
