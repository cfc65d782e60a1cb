pub mod InputViews
pub mod AsciiByTable
