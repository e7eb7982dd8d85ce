pub mod History
pub mod Table
pub mod Standing
pub mod Lists
pub mod Losses
