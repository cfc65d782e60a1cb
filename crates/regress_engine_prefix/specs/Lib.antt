pub mod FirstBytes
pub mod Prefixes
pub mod Starts
pub mod Reaches
pub mod WordEdges
pub mod Choosing
