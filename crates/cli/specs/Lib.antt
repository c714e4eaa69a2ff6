pub mod Arguments
pub mod Armor
pub mod Shown
pub mod Pem
pub mod Spelling
pub mod Spelled
pub mod Status
pub mod Told
