pub mod Entries
pub mod Digits
pub mod Places
pub mod Laws
pub mod Held
