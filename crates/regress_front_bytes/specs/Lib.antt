pub mod ByteSets
pub mod Bitmaps
pub mod Utf8Forms
pub mod FoldSteps
pub mod EqualRange
