pub mod BitRows
pub mod Members
pub mod Utf8Lemmas
pub mod EqualRangeLemmas
pub mod TextLemmas
