pub mod Lowering
pub mod Parsed
pub mod Lowered
pub mod Pairing
pub mod Scopes
