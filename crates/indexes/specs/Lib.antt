pub mod Tables
pub mod Index
