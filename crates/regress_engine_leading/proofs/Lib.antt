pub mod ComesLemmas
pub mod ExitLemmas
pub mod RepeatLemmas
pub mod RunLemmas
pub mod WordLemmas
pub mod LeadLemmas
