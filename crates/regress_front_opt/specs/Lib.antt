pub mod Shapes
pub mod Passes
