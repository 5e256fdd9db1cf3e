pub mod OneAnswer
pub mod AnsweringSteps
pub mod CostSteps
pub mod CatalogSteps
pub mod TableSteps
pub mod Told
pub mod ReadSteps
pub mod RunSteps
pub mod StandardFacts
mod FileNames
