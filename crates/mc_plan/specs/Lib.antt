pub mod Constants
pub mod Conds
pub mod Plans
pub mod Entries
pub mod Rejects
pub mod Steps
