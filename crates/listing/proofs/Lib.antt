pub mod Rendered
pub mod Read
pub mod Sample
pub mod Cut
