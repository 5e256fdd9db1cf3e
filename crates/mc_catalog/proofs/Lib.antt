pub mod PlainLawful
pub mod LawfulNames
pub mod Lists
pub mod LawfulSteps
pub mod LinesRead
pub mod OneOutcome
pub mod OutcomeLemmas
