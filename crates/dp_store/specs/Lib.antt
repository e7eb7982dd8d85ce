pub mod Elements
pub mod Held
pub mod Listings
pub mod Rowwise
pub mod Selections
pub mod Stores
pub mod Taken
