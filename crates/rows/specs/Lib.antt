pub mod Partway
pub mod Linked
