pub mod Rows
pub mod Tables
pub mod Chars
pub mod NextChar
pub mod PutChar
pub mod Names
pub mod CharStart
pub mod CodePoints
