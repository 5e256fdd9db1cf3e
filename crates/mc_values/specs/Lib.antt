pub mod Values
pub mod Shown
pub mod Hexadecimal
pub mod Conversion
