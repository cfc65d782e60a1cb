pub mod MayWalk
pub mod AtStart
pub mod NotBack
pub mod Sizes
pub mod Nearer
pub mod Walks
pub mod Untold
