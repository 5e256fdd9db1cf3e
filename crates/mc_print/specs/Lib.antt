pub mod Escapes
pub mod Cells
pub mod Lines
