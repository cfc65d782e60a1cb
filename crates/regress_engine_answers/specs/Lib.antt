pub mod AnswerTables
pub mod Filled
pub mod Filling
pub mod Ended
