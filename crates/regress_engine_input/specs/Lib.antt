pub mod Views
pub mod References
