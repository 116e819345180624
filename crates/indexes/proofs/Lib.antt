pub mod Sources
pub mod Owning
