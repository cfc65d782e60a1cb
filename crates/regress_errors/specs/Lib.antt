pub mod Texts
pub mod ErrorTexts
pub mod Refusing
