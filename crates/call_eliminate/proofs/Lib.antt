pub mod Eliminating
