pub mod AnswerEquality
pub mod Joining
pub mod Making
pub mod Mapping
pub mod Mechanism
pub mod Releasing
