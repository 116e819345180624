pub mod Hexadecimals
pub mod Written
