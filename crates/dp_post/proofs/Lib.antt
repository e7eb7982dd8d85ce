pub mod GivenAnswers
pub mod Greatest
pub mod RunningSums
