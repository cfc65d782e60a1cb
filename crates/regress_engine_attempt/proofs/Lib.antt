pub use Rattle.regress_engine_trying.proofs.CountLemmas
pub use Rattle.regress_engine_trying.proofs.RememberLemmas
mod TabledLemmas
