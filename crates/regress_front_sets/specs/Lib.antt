pub mod Props
pub mod Intervals
pub mod Sets
pub mod FirstBytes
pub mod Counted
