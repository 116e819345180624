pub mod Search
pub mod Following
pub mod Asking
