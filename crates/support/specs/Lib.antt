pub mod Counted
pub mod Sip
pub mod Taken
