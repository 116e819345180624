pub mod Regions
pub mod Partway
pub mod Linking
pub mod Rewriting
pub mod Building
