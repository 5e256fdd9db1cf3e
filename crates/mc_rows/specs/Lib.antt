pub mod Numbers
pub mod HexBytes
pub mod Fit
pub mod Fields
pub mod Records
pub mod Outcome
pub mod Told
