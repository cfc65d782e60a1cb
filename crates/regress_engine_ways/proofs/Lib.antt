pub mod ExitWays
pub mod ExitAnswers
pub mod OnWay
pub mod Through
pub mod Staying
pub mod Ends
pub mod ExitEnds
