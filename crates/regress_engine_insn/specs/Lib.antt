pub mod Instructions
pub mod Layout
pub mod Counts
pub mod InsnViews
pub mod ProgramViews
