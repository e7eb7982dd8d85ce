pub mod Parts
pub mod Response
pub mod ResponseProof
pub mod ResponseWays
