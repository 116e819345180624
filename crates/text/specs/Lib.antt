pub mod Digits
pub mod Fixed
pub mod Decimal
pub mod Rest
