pub mod Striking
pub mod Sums
pub mod Adding
pub mod Counting
pub mod Coming
pub mod Leaving
pub mod Moving
pub mod Runs
