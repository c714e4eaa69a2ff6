pub mod Lines
pub mod Answers
pub mod Gather
pub mod Requests
