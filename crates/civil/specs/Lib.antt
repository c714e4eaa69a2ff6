pub mod Calendar
pub mod Time
pub mod Octets
