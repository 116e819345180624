pub mod Writing
pub mod Conditions
