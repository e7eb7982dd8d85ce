pub mod Examples
pub mod Frequency
pub mod LeastNumbers
