pub mod Sparing
pub mod Failing
pub mod Leads
pub mod Passed
pub mod Passing
pub mod Taking
pub mod Counted
