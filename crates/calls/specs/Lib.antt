pub mod Entrance
