pub mod Classes
pub mod Repertoires
pub mod Plain
pub mod Conversion
pub mod Kept
pub mod Exact
pub mod Steps
