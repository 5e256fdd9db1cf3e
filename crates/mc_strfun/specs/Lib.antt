pub mod Numbers
pub mod Slices
pub mod Joins
pub mod Pads
pub mod Replaced
pub mod Trimmed
