pub mod Number
pub mod Octets
pub mod Decimal
pub mod Scan
pub mod Contents
pub mod Double
