pub mod Digesting
pub mod Widening
