pub mod Comparing
pub mod Examples
pub mod OneMore
pub mod Ordered
pub mod Places
