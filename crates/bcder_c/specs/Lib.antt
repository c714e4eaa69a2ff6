pub mod Rules
pub mod Results
