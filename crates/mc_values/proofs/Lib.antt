mod Digits
mod HexDigits
mod ShownLaws
mod StandardFacts
