pub mod Any
pub mod UcaOutcome
pub mod BookOutcome
pub mod Meanings
