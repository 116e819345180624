pub mod Mining
pub mod Counted
