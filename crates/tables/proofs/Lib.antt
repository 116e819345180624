pub mod Stores
pub mod Tables
pub mod Parts
pub mod Rows
pub mod Searching
pub mod Moving
pub mod Clearing
pub mod Chunks
