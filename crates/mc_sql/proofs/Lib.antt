pub mod Numbers
pub mod Spellings
pub mod Decided
pub mod Sound
pub mod Completing
pub mod Nests
pub mod StandardFacts
