pub mod Mined
