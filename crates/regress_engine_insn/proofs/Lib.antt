pub mod LayoutLemmas
pub mod LiteralLemmas
pub mod StringLemmas
pub mod CountLemmas
pub mod BitmapLemmas
pub mod TakingLemmas
pub mod BeginLemmas
