pub mod Tally
pub mod Limits
