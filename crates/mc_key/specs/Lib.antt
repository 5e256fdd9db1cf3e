pub mod Keys
pub mod Fronts
pub mod WeightString
pub mod Laws
