pub mod PlaceViews
pub mod Singles
pub mod StateViews
pub mod Repeating
pub mod Searching
pub mod Utf8Reading
