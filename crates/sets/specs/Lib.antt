pub mod Truth
pub mod Sets
pub mod Words
pub mod Extremes
pub mod Held
pub mod Walks
