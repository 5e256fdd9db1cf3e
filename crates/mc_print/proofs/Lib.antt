mod Escapes
mod EscapeLaws
mod SameBytes
mod StandardFacts
