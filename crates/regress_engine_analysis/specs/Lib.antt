pub mod MayBegin
pub mod Planned
pub mod Shared
pub mod Submatches
pub mod Ways
