pub mod Leading
pub mod Fronts
pub mod Ones
pub mod Days
pub mod Seconds
