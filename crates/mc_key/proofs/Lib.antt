pub mod Kept
pub mod Alike
pub mod Copies
pub mod Fitted
pub mod WeightBytes
pub mod Fronts
