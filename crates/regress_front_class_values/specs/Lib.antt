pub mod ClassValues
