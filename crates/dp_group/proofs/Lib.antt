pub mod EachRelease
pub mod GroupInputs
pub mod GroupTexts
pub mod Repeating
