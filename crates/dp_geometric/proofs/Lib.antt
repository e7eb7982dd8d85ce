mod LeadingRun
mod Settling
mod Stepping
mod VectorSteps
pub mod Ways
