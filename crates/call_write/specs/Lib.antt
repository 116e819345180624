pub mod Writer
pub mod Conditions
pub mod Results
