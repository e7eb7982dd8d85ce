pub mod AnswersProof
pub mod ColumnProof
pub mod Grouped
pub mod GroupedLaw
pub mod GroupedProof
pub mod StepsProof
