pub mod AsciiCase
pub mod References
