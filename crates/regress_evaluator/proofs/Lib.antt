pub mod Utf8Lemmas
pub mod ReadingLemmas
pub mod ToldLemmas
pub mod EvaluatorLemmas
pub mod RepetitionLemmas
pub mod SearchLemmas
pub mod BetweenLemmas
