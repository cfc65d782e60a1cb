pub mod CountLemmas
pub mod BeginLemmas
pub mod TurnLemmas
pub mod TableLemmas
