pub mod CodeLemmas
pub mod CheckedLemmas
pub mod CopyLemmas
