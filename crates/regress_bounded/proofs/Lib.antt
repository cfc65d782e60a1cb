pub mod StepLemmas
pub mod ShownLemmas
pub mod IterationLemmas
pub mod AlikeLemmas
pub mod TogetherLemmas
