pub mod Posted
pub mod PostedLaw
pub mod PostedProof
pub mod Posts
