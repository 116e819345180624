mod Filling
pub mod Texts
