pub mod Blocks
pub mod Sorted
pub mod Asking
