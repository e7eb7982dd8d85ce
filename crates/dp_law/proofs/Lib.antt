pub mod Caps
pub mod ChainingLaw
pub mod Equality
pub mod JoinedReleases
pub mod JoiningLaw
pub mod Landing
pub mod Suits
pub mod Taking
