pub mod Stores
pub mod Tables
pub mod Search
pub mod Rows
