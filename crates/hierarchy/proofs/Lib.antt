pub mod Sieving
pub mod Building
pub mod Seeking
pub mod Reading
