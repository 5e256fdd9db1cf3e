pub mod WeightLemmas
pub mod FirstWeights
mod StandardFacts
