mod Utf8Records
mod Reading
mod Refused
mod Said
mod Fitting
mod Written
mod Values
