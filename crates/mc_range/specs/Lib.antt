pub mod Condition
pub mod Candidates
pub mod Safe
pub mod Intervals
pub mod Bounds
pub mod Finds
pub mod Places
pub mod Appends
