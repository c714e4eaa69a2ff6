pub mod x690
pub mod calls
pub mod steps
pub mod laws
