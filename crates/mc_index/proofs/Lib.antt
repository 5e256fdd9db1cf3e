pub mod Counts
pub mod Digits
pub mod Halves
pub mod Ordered
pub mod OneOrder
pub mod Between
pub mod Adding
mod StandardFacts
pub mod FrontsFirst
