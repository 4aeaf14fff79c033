pub mod Behind
pub mod Calls
pub mod Results
