pub mod Reader
pub mod Conditions
