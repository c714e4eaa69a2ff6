pub mod Asking
pub mod Going
pub mod Files
