pub mod ElementLemmas
pub mod FirstOfLemmas
pub mod MayBeginLemmas
pub mod PlanLemmas
pub mod SharedLemmas
pub mod WaysLemmas
