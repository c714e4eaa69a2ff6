pub mod Numbers
pub mod Texts
pub mod Decimals
pub mod Ones
pub mod Back
pub mod Doubles
pub mod Fives
