pub mod ClassLemmas
pub mod ContentsLemmas
pub mod HoldLemmas
pub mod SetLemmas
