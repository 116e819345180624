pub mod Lines
pub mod Forms
pub mod Lengths
pub mod Sample
