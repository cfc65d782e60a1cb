pub mod TaskLemmas
pub mod SoundLemmas
pub mod StateLemmas
pub mod LeaveLemmas
pub mod PlainLemmas
pub mod EndLemmas
pub mod TryLemmas
