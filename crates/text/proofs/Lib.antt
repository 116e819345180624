pub mod Digits
pub mod Bytes
pub mod Decimals
pub mod Written
pub mod Puts
pub mod Rests
