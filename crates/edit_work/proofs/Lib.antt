pub mod Reaching
pub mod Sampling
pub mod Narrowing
