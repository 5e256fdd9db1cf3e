pub mod Bases
pub mod Jamo
pub mod Outside
pub mod Unlisted
pub mod Elements
