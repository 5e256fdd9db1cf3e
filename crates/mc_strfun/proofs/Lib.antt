pub mod Lengths
pub mod Parts
pub mod Limits
pub mod Joined
pub mod Paddings
pub mod Backwards
pub mod Replaced
pub mod Trimmed
pub mod LeftOver
pub mod Endings
pub mod Ended
mod StandardFacts
