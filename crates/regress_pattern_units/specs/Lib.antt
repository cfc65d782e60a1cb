pub mod PatternUnits
