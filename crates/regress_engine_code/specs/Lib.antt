pub mod Written
pub mod Laid
pub mod Emitting
pub mod Standing
pub mod Told
