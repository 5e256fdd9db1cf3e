pub mod Cells
pub mod Found
pub mod OwnSets
pub mod Truths
pub mod Compared
pub mod Values
pub mod Members
pub mod Rejecting
pub mod Outside
pub mod Served
pub mod Chosen
mod StandardFacts
