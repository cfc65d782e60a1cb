pub mod NormalForm
pub mod Words
pub mod Rules
pub mod Weight
pub mod Kept
pub mod Laws
