pub mod Compare
pub mod Candidates
pub mod Outcome
pub mod Lifts
pub mod Fronts
pub mod LikeFinds
pub mod Literals
pub mod Finds
pub mod Bounds
pub mod Loops
pub mod SafeChars
pub mod Counts
mod StandardFacts
