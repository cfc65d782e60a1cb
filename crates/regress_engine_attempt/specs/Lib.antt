pub mod Attempts
pub mod Loops
pub mod Turns
pub use Rattle.regress_engine_trying.specs.Counting
pub use Rattle.regress_engine_trying.specs.Trying
