pub mod Ranks
pub mod RankTables
pub mod Answered
pub mod Levels
pub mod Linear
pub mod LinearTests
pub mod LinearViews
